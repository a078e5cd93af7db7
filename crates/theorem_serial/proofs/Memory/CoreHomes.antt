-- What a core sends about lines goes to their homes, and names some word where it names words; then that it stays in memory.
use Rattle.rules_tcc.specs.Sends.{write_back_of}
use Rattle.rules_program.specs.Ram.{part}
use Rattle.theorem_serial.proofs
use proofs.Names
use Names.{and-both, eq-from, ℕ, ◌%◌, ◌≡◌, ◌<◌, Bool, true, false, not, List, [], ◌∷◌, ◌++◌, ◌==◌, ◌&&◌, cond, Some, None, IfSome, is_some}
use Names.{nat_lt, if◌then◌else◌, flat_map, arith, refl, any_below-found, Program, num, those, count_below, any_word, word_at, Dir, Msg}
use Names.{LoadReq, Skip, Mark, Commit, WriteBack, Flush, InvAck, Shape, home, lines, Cache, keeps, is_dirty, dirty_mask, dirty_copy}
use Names.{dirty_words, dirty_tag, is_modified, modified_mask, written_lines, Spilled, holds, spilled_mask, spilled_words, CoreState, Sends}
use Names.{to, flush_of, flush_line, write_back_line, marks_for, commit, solo_commit, solo_sends, solo_marks_or_skip, solo_write_backs}
use Names.{solo_writes_at, is_written, written_mask, core_exec, core_evict, grant, from_dir, LinesAway, NoWord, among, passes, nats, inl}
use Names.{inr, ◌||◌, Option, Load, Stored, Need, Loads, Stores, Changes, load_of, word_of, line_of, set_of, free_way, marked, stored}
use Names.{placed, placed_at, committed, words_dropped, World, Out, noted, committed_core, WordInMemory, NeedInMemory, StaysInMemory}
use Names.{FramesInMemory, AccessesInMemory, loads_word, stores_word, suc, sym, ◌∙◌, Noted, any_below, place_of, writes_at, reads_at}
use Names.{any_below-at, AccessesAtHomes, MarksAtHomes, WrittenInMemory, CommitsInMemory, stores_at, loads_at, names_line, wrote}
use Names.{wrote_line, zero, ◌≤◌, flat_map-append, IsCache, nothing, CopyOf}
use proofs.Counts.{among-append, among-flat_map_none}
use proofs.Serving.{among-those_none}
use proofs.Marks.CoreMarks.{some-mask, modified-full, written-full, holds-found, stored-any, stored-line}
use proofs.OneCore.{Aborts_all, Empties, Flushes, Marks_at, Requests, Silent, Skips_all, Tells_alone, Wants, quiet, say, Did, Given_none}
use proofs.OneCore.{Granted, Heard, Hurt_alone, Hurt_probing, Hurt_running, Hurt_waiting, Room_wanted, Hurt_none, acked, each-back}
use proofs.OneCore.{each-evict, each-exec, each-grant, granted, granted_said, heard, heard_said, out, said, loads_word-append}
use proofs.OneCore.{stores_word-append, AccessAt, Acting, Buffers, Commits_now, Ends_alone, Finds, Frames, Frames_anew, Misses_anew, Reads}
use proofs.OneCore.{Storing, stores-access, Hands_out, heard-quiet}
use proofs.OneCore.Said.{Said}

-- each of these messages to the directory is about a line at home there, if about any, and of some word, if of words
pub record Homely (sh : Shape) (d : ℕ) (ms : List Msg) : Type 0 where
  pub away : among (LinesAway sh.dirs d) ms ≡ 0
  pub words : among NoWord ms ≡ 0

abbrev pub HomelyOut : Shape → Sends → Type 0
HomelyOut sh sends = (d : ℕ) → Homely sh d (sends (Dir d))

pub homely-none : (sh : Shape) (d : ℕ) → Homely sh d []
unfolding among
homely-none sh d = record { away = refl; words = refl }

homely-append : {sh : Shape} {d : ℕ} {a b : List Msg} → Homely sh d a → Homely sh d b → Homely sh d (a ++ b)
homely-append {sh} {d} {a} {b} x y =
    record {
      away = omega (arith, among-append);
      words = omega (arith, among-append);
    }

pub homely-those : (sh : Shape) (d : ℕ) (f : ℕ → List Msg) (p : ℕ → Bool) (n : ℕ) → ((l : ℕ) → p l ≡ true → Homely sh d (f l))
    → Homely sh d (flat_map f (those p n))
homely-those sh d f p n h =
    record {
      away = among-those_none (LinesAway sh.dirs d) f p n (λ l e. (h l e).away);
      words = among-those_none NoWord f p n (λ l e. (h l e).words);
    }

-- to the home of a line
homely-to : (sh : Shape) (h d : ℕ) (ms : List Msg) → ((d ≡ h) → Homely sh d ms) → Homely sh d (to (Dir h) ms (Dir d))
homely-to sh h d ms f = go (d == h) refl
  where
    go : (b : Bool) → (d == h) ≡ b → Homely sh d (if b then ms else [])
    go true e = f (grind nats)
    go false e = homely-none sh d

-- one message
at-home : (sh : Shape) (d l : ℕ) → d ≡ home sh l → num (not ((l % sh.dirs) == d)) ≡ 0
at-home sh d l e = let b : ((l % sh.dirs) == d) ≡ true = rw e (grind nats) in rw b

some-word : (m : ℕ) → 0 < m → num (m == 0) ≡ 0
some-word m l = let b : (m == 0) ≡ false = grind nats in rw b

one-load : (sh : Shape) (d l a : ℕ) → d ≡ home sh l → Homely sh d (LoadReq l a ∷ [])
unfolding among passes
one-load sh d l a e = record { away = omega (arith, at-home); words = refl }

one-ack : (sh : Shape) (d l : ℕ) (b : Bool) → d ≡ home sh l → Homely sh d (InvAck l b ∷ [])
unfolding among passes
one-ack sh d l b e = record { away = omega (arith, at-home); words = refl }

one-mark : (sh : Shape) (d l m t : ℕ) → d ≡ home sh l → 0 < m → Homely sh d (Mark l m t ∷ [])
unfolding among passes
one-mark sh d l m t e s = record { away = omega (arith, at-home); words = omega (arith, some-word) }

one-back : (sh : Shape) (d l m : ℕ) (ws : List ℕ) (t : ℕ) → d ≡ home sh l → 0 < m → Homely sh d (WriteBack l m ws t ∷ [])
unfolding among passes
one-back sh d l m ws t e s = record { away = omega (arith, at-home); words = omega (arith, some-word) }

one-flush : (sh : Shape) (d l m : ℕ) (ws : List ℕ) (t : ℕ) → d ≡ home sh l → 0 < m → Homely sh d (Flush l m ws t ∷ [])
unfolding among passes
one-flush sh d l m ws t e s = record { away = omega (arith, at-home); words = omega (arith, some-word) }

dirty-full : (c : Cache) (l : ℕ) → is_dirty c l ≡ true → 0 < dirty_mask c l
unfolding is_dirty any_word dirty_mask
dirty-full c l e = let x = any_below-found (λ k. is_some (c.dirty (word_at l k))) 8 e in
    some-mask (λ k. is_some (c.dirty (word_at l k))) x.0 x.1 x.2

spilled-full : (sp : Spilled) (l : ℕ) → holds sp l ≡ true → 0 < spilled_mask sp l
unfolding spilled_mask
spilled-full sp l e = let x = holds-found sp l e in some-mask (λ k. is_some (sp (word_at l k))) x.0 x.1 x.2

homely-flushed : (sh : Shape) (c : Cache) (l : ℕ) → HomelyOut sh (flush_line sh c l)
unfolding flush_line dirty_copy
homely-flushed sh c l d = homely-to sh (home sh l) d (flush_of (dirty_copy c l)) (go (is_dirty c l) refl)
  where
    go : (b : Bool) → is_dirty c l ≡ b → d ≡ home sh l
        → Homely sh d (flush_of (cond b (Some (record { line = l; mask = dirty_mask c l; words = dirty_words c l; tag = dirty_tag c l }))
        None))
    go false q e = homely-none sh d
    go true q e = one-flush sh d l (dirty_mask c l) (dirty_words c l) (dirty_tag c l) e (dirty-full c l q)

homely-written : (sh : Shape) (c : Cache) (l : ℕ) → HomelyOut sh (write_back_line sh c l)
unfolding write_back_line dirty_copy
homely-written sh c l d = homely-to sh (home sh l) d (write_back_of (dirty_copy c l)) (go (is_dirty c l) refl)
  where
    go : (b : Bool) → is_dirty c l ≡ b → d ≡ home sh l
        → Homely sh d (write_back_of
        (cond b (Some (record { line = l; mask = dirty_mask c l; words = dirty_words c l; tag = dirty_tag c l })) None))
    go false q e = homely-none sh d
    go true q e = one-back sh d l (dirty_mask c l) (dirty_words c l) (dirty_tag c l) e (dirty-full c l q)

homely-solo : (sh : Shape) (c : Cache) (sp : Spilled) (u : ℕ) → HomelyOut sh (solo_sends sh c sp u)
unfolding solo_sends solo_marks_or_skip solo_write_backs among passes
homely-solo sh c sp u d =
    let p : ℕ → Bool = λ k. d == home sh k && is_written c sp k in
    go (nat_lt d sh.dirs) (solo_writes_at sh c sp d)
  where
    backs : Homely sh d (flat_map (λ k. WriteBack k (spilled_mask sp k) (spilled_words sp k) u ∷ [])
        (those (λ k. d == home sh k && holds sp k) (lines sh)))
    backs = homely-those sh d (λ k. WriteBack k (spilled_mask sp k) (spilled_words sp k) u ∷ []) (λ k. d == home sh k && holds sp k)
        (lines sh) (λ l e. let x = and-both (d == home sh l) (holds sp l) e in
        one-back sh d l (spilled_mask sp l) (spilled_words sp l) u (eq-from d (home sh l) x.0) (spilled-full sp l x.1))

    marks : Homely sh d (flat_map (λ k. Mark k (written_mask c sp k) u ∷ []) (those (λ k. d == home sh k && is_written c sp k) (lines sh)))
    marks = homely-those sh d (λ k. Mark k (written_mask c sp k) u ∷ []) (λ k. d == home sh k && is_written c sp k) (lines sh)
        (λ l e. let x = and-both (d == home sh l) (is_written c sp l) e in
        one-mark sh d l (written_mask c sp l) u (eq-from d (home sh l) x.0) (written-full c sp l x.1))

    last : Homely sh d (Commit u (count_below (λ k. d == home sh k && is_written c sp k) (lines sh)) ∷ [])
    last = record { away = refl; words = refl }

    skip : Homely sh d (Skip u ∷ [])
    skip = record { away = refl; words = refl }

    go : (b w : Bool)
        → Homely sh d (if b then (if w then flat_map (λ k. Mark k (written_mask c sp k) u ∷ [])
        (those (λ k. d == home sh k && is_written c sp k) (lines sh))
        ++ Commit u (count_below (λ k. d == home sh k && is_written c sp k) (lines sh)) ∷ [] else Skip u ∷ [])
        ++ solo_write_backs sh sp u d else [])
    go false w = homely-none sh d
    go true true = homely-append (homely-append marks last) backs
    go true false = homely-append skip backs

homely-marks : (sh : Shape) (c : Cache) (u e : ℕ) → HomelyOut sh (to (Dir e) (marks_for sh c u e))
unfolding marks_for written_lines
homely-marks sh c u e d = homely-to sh e d (marks_for sh c u e)
    (λ q. homely-those sh d (λ k. Mark k (modified_mask c k) u ∷ []) (λ k. e == home sh k && is_modified c k) (lines sh)
    (λ l x. let y = and-both (e == home sh l) (is_modified c l) x in
    one-mark sh d l (modified_mask c l) u (rw q (eq-from e (home sh l) y.0)) (modified-full c l y.1)))

-- so is all that a core sends
homely-said : (sh : Shape) (s : CoreState) (q : Said) → HomelyOut sh (say sh s q)
unfolding passes
homely-said sh s (Flushes l) = homely-flushed sh s.cache l
homely-said sh s (Empties l) = homely-written sh s.cache l
homely-said sh s (Requests l) = λ d. homely-to sh (home sh l) d (LoadReq l (s.last_commit (home sh l)) ∷ [])
    (one-load sh d l (s.last_commit (home sh l)))
homely-said sh s (Tells_alone t) = homely-solo sh s.cache s.spilled t
homely-said sh s (Marks_at e t) = homely-marks sh s.cache t e
homely-said sh s q = λ d. record { away = quiet sh s (LinesAway sh.dirs d) q (λ x. refl) d; words = quiet sh s NoWord q (λ x. refl) d }

pub homes-exec : (sh : Shape) (p : Program) (c : ℕ) (s : CoreState) → IfSome (core_exec sh p c s) (λ o. HomelyOut sh o.sends)
unfolding commit solo_commit
homes-exec sh p c s = each-exec sh p c s (λ o. HomelyOut sh o.sends) go
  where
    go : (x : Did sh p c s) → HomelyOut sh (out x).sends
    go (Room_wanted r i) = homely-said sh s Wants
    go x = homely-said sh s (said x)

pub homes-evict : (sh : Shape) (x y : ℕ) (s : CoreState) → IfSome (core_evict sh x y s) (λ o. HomelyOut sh o.sends)
homes-evict sh x y s = each-evict sh x y s (λ o. HomelyOut sh o.sends) (λ l e a m. homely-written sh s.cache l)

pub homes-grant : (sh : Shape) (t : ℕ) (s : CoreState) → HomelyOut sh (grant sh t s).sends
homes-grant sh t s = each-grant sh t s (λ o. HomelyOut sh o.sends) go
  where
    go : (x : Granted sh t s) → HomelyOut sh (granted x).sends
    go (Given_none e) = homely-said sh s Silent
    go x = homely-said sh s (granted_said x)

pub homes-back : (sh : Shape) (e : ℕ) (s : CoreState) (m : Msg) → IfSome (from_dir sh e s m) (λ o. HomelyOut sh o.sends)
homes-back sh e s m = each-back sh e s (λ m o. HomelyOut sh o.sends) go m
  where
    hurt : (k : ℕ) (r : CoreState) (q : Said) → HomelyOut sh (acked sh k r (say sh s q)).sends
    hurt k r q d = homely-append
        (homely-said sh s q d) (homely-to sh (home sh k) d (InvAck k (keeps r.cache k) ∷ []) (one-ack sh d k (keeps r.cache k)))

    go : (x : Heard sh e s) → HomelyOut sh (heard x).sends
    go (Hurt_none k m u n) = hurt k (heard {sh = sh} {e = e} {s = s} (Hurt_none k m u n)).core Silent
    go (Hurt_running k m u v q) = hurt k (heard {sh = sh} {e = e} {s = s} (Hurt_running k m u v q)).core Silent
    go (Hurt_waiting k m u v q) = hurt k (heard {sh = sh} {e = e} {s = s} (Hurt_waiting k m u v q)).core Silent
    go (Hurt_probing k m u t v q) = hurt k (heard {sh = sh} {e = e} {s = s} (Hurt_probing k m u t v q)).core (Aborts_all t)
    go (Hurt_alone k m u t v q) = hurt k (heard {sh = sh} {e = e} {s = s} (Hurt_alone k m u t v q)).core (Skips_all t)
    go x = homely-said sh s (heard_said x)

-- A core in memory names lines of the memory alone, in its state and in what it sends.

-- Each of a core's rules keeps that its frames and what its attempt used lie in memory, where the next instruction's access does.

-- what a core holds lies in memory
pub record CoreInMemory (sh : Shape) (s : CoreState) : Type 0 where
  pub frames : FramesInMemory sh s.cache
  pub accesses : AccessesInMemory sh s.loads s.stores

abbrev pub CoresInMemory : Shape → World → Type 0
CoresInMemory sh w = (c : ℕ) → CoreInMemory sh (w.cores c)

-- and what it commits
abbrev pub OutInMemory : Shape → Out → Type 0
OutInMemory sh o = CoreInMemory sh o.core × IfSome o.commit (λ n. AccessesInMemory sh n.loads n.stores)

pub nothing-used : (sh : Shape) → AccessesInMemory sh [] []
unfolding loads_word stores_word
nothing-used sh = record { loaded = λ x e. absurd (cc); stored = λ x e. absurd (cc) }

-- one more load, one more store
with-load : {sh : Shape} {ls : List Load} {ss : List Stored} (m : Load) → WordInMemory sh (word_of sh.base m.addr)
    → AccessesInMemory sh ls ss → AccessesInMemory sh (ls ++ m ∷ []) ss
unfolding loads_word
with-load {sh} {ls} m w k = record {
  loaded = λ x e. go x (loads_word sh.base ls x) refl (rw (loads_word-append sh.base ls (m ∷ []) x) at e);
  stored = k.stored;
}
  where
    go : (x : ℕ) (a : Bool) → loads_word sh.base ls x ≡ a → (a || ((word_of sh.base m.addr == x) || false)) ≡ true → WordInMemory sh x
    go x true q e = k.loaded x q
    go x false q e = let i : word_of sh.base m.addr ≡ x = grind nats in rw i at w

one-store : {sh : Shape} {ls : List Load} {ss : List Stored} (m : Stored) → WordInMemory sh (word_of sh.base m.addr)
    → AccessesInMemory sh ls ss → AccessesInMemory sh ls (ss ++ m ∷ [])
unfolding stores_word
one-store {sh} {ss} m w k =
    record { loaded = k.loaded; stored = λ x e. go x (stores_word sh.base ss x) refl (rw (stores_word-append sh.base ss (m ∷ []) x) at e) }
  where
    go : (x : ℕ) (a : Bool) → stores_word sh.base ss x ≡ a → (a || ((word_of sh.base m.addr == x) || false)) ≡ true → WordInMemory sh x
    go x true q e = k.stored x q
    go x false q e = let i : word_of sh.base m.addr ≡ x = grind nats in rw i at w

-- the same frames, and the same loads and stores
pub same-memory : {sh : Shape} {s : CoreState} (r : CoreState) → r.cache.held ≡ s.cache.held → r.loads ≡ s.loads → r.stores ≡ s.stores
    → CoreInMemory sh s → CoreInMemory sh r
same-memory r f l t k = record { frames = λ m e. k.frames m (rw f at e); accesses = rw (l, t) k.accesses }

-- a new frame is of a line in memory
placed-frames : (sh : Shape) (l : ℕ) (c : Cache) → l < lines sh → FramesInMemory sh c → FramesInMemory sh (placed sh l c)
unfolding placed placed_at
placed-frames sh l c m h k e = go (free_way sh c (set_of sh l)) e
  where
    at : (b : Bool) → (k == l) ≡ b → (if b then true else c.held k) ≡ true → k < lines sh
    at a q e = grind nats

    go : (y : Option ℕ) → (placed_at y (set_of sh l) l c).held k ≡ true → k < lines sh
    go a e = grind nats

-- where the program accesses memory alone, so does the instruction at hand
pub in-memory : (sh : Shape) {p : Program} (s : CoreState) {need : Need} (a : ℕ) → StaysInMemory sh p → Acting p s need → AccessAt a need
    → WordInMemory sh (word_of sh.base a)
in-memory sh s {need} a i g at = go need at (rw g.need at (i s.local))
  where
    go : (need : Need) → AccessAt a need → NeedInMemory sh need → WordInMemory sh (word_of sh.base a)
    go (Loads b z) e n = rw e at n
    go (Stores b z v) e n = rw e at n
    go (Changes b f) e n = rw e at n
    go _ e n = absurd e

-- one more load, one more store
stored-memory : {sh : Shape} {s : CoreState} {a : ℕ} (k : Storing s a) → WordInMemory sh (word_of sh.base a) → CoreInMemory sh s
    → AccessesInMemory sh k.loads (s.stores ++ k.store ∷ [])
stored-memory {sh} {s} k w h = elim k.loaded [ inl e ↦ rw e more | inr z ↦ rw z.2 (with-load z.0 (rw z.1 w) more) ]
  where
    more : AccessesInMemory sh s.loads (s.stores ++ k.store ∷ [])
    more = one-store k.store (rw k.addr w) h.accesses

pub exec-memory : (sh : Shape) (p : Program) (id : ℕ) (s : CoreState) → StaysInMemory sh p → CoreInMemory sh s
    → IfSome (core_exec sh p id s) (OutInMemory sh)
unfolding commit solo_commit committed_core committed words_dropped noted stored marked
exec-memory sh p id s i k = each-exec sh p id s (OutInMemory sh) go
  where
    w : (a : ℕ) {need : Need} → Acting p s need → AccessAt a need → WordInMemory sh (word_of sh.base a)
    w a g at = in-memory sh s a i g at

    go : (x : Did sh p id s) → OutInMemory sh (out x)
    go (Finds a x z l g f) = (
      record {
        frames = k.frames;
        accesses = with-load (load_of a z (part x a z)) (w a g refl) k.accesses;
      },
      tt,
    )
    go (Reads a x z l g r f) = (
      record {
        frames = k.frames;
        accesses = with-load (load_of a z (part x a z)) (w a g refl) k.accesses;
      },
      tt,
    )
    go (Buffers a y v n q g at e f) = (record { frames = k.frames; accesses = stored-memory q (w a g (stores-access n a at)) k }, tt)
    go (Frames a y also n q g at f) = (record { frames = k.frames; accesses = stored-memory q (w a g (stores-access n a at)) k }, tt)
    go (Frames_anew a y n q g at e f h) = (
      record {
        frames = placed-frames sh (line_of (word_of sh.base a)) s.cache (w a g (stores-access n a at)) k.frames;
        accesses = stored-memory q (w a g (stores-access n a at)) k;
      },
      tt,
    )
    go (Misses_anew a n g at e f) =
        (record { frames = placed-frames sh (line_of (word_of sh.base a)) s.cache (w a g at) k.frames; accesses = k.accesses }, tt)
    go (Ends_alone t l e f r n) = (record { frames = k.frames; accesses = nothing-used sh }, k.accesses)
    go (Commits_now t r) = (record { frames = k.frames; accesses = nothing-used sh }, k.accesses)
    go _ = (same-memory _ refl refl refl k, tt)

-- A core whose frames are of lines of memory sends words home of such lines alone; and what lies in memory is found at its home.

-- What lies in memory is found at its home.

-- a line has a word with p where one of its words has it
pub line-has : (p : ℕ → Bool) (x : ℕ) → p x ≡ true → any_word p (line_of x) ≡ true
unfolding any_word
line-has p x e = let same : word_at (line_of x) (place_of x) ≡ x = omega arith in
    any_below-at (λ k. p (word_at (line_of x) k)) 8 (place_of x) (omega arith) (rw same e)

pub line-found : (p : ℕ → Bool) (l : ℕ) → any_word p l ≡ true → (x : ℕ) × (line_of x ≡ l) × (p x ≡ true)
unfolding any_word
line-found p l e = let k = any_below-found (λ k. p (word_at l k)) 8 e in (word_at l k.0, omega arith, k.2)

-- and is then found among the lines of its home
home-has : (sh : Shape) (p : ℕ → Bool) (l : ℕ) → l < lines sh → any_word p l ≡ true
    → any_below (λ k. home sh l == home sh k && any_word p k) (lines sh) ≡ true
home-has sh p l i e = any_below-at (λ k. home sh l == home sh k && any_word p k) (lines sh) l i
    (let h : (home sh l == home sh l) ≡ true = grind nats in rw (h, e))

stored-at : (sh : Shape) (ss : List Stored) (l : ℕ) → l < lines sh → any_word (stores_word sh.base ss) l ≡ true
    → stores_at sh (home sh l) ss ≡ true
stored-at sh ss l i e =
    sym (stored-any sh (home sh l) ss (λ k. home sh l == home sh k && any_word (stores_word sh.base ss) k) (stored-line sh (home sh l) ss))
    ∙ home-has sh (stores_word sh.base ss) l i e

-- a line with a word in memory is one of memory
line-memory : (sh : Shape) (p : ℕ → Bool) → ((x : ℕ) → p x ≡ true → WordInMemory sh x) → (l : ℕ) → any_word p l ≡ true → l < lines sh
line-memory sh p h l e = let x = line-found p l e in omega (arith, h x.0 x.2)

pub accesses_at_homes : AccessesAtHomes
unfolding loads_at names_line
accesses_at_homes sh ls ss k = record {
  loaded = λ x e. home-has sh (loads_word sh.base ls) (line_of x) (k.loaded x e) (line-has (loads_word sh.base ls) x e);
  stored = λ x e. stored-at sh ss (line_of x) (k.stored x e) (line-has (stores_word sh.base ss) x e);
  in_line = λ l e. let i = line-memory sh (stores_word sh.base ss) k.stored l e in (i, stored-at sh ss l i e);
}

-- marked words have frames
pub marks_at_homes : MarksAtHomes
unfolding reads_at writes_at is_modified
marks_at_homes sh c k f = record {
  read = λ x e. home-has sh c.read (line_of x) (f (line_of x) (held-read x (c.held (line_of x)) refl e)) (line-has c.read x e);
  modified = λ x e. home-has sh c.modified (line_of x) (f (line_of x) (held-modified x (c.held (line_of x)) refl e))
      (line-has c.modified x e);
}
  where
    held-read : (x : ℕ) (b : Bool) → c.held (line_of x) ≡ b → c.read x ≡ true → c.held (line_of x) ≡ true
    held-read x a q e = grind nats

    held-modified : (x : ℕ) (b : Bool) → c.held (line_of x) ≡ b → c.modified x ≡ true → c.held (line_of x) ≡ true
    held-modified x a q e = grind nats

-- what a commit wrote
word-wrote : (sh : Shape) (cs : List Noted) (c t x : ℕ) → CommitsInMemory sh cs → wrote sh.base cs c t x ≡ true → WordInMemory sh x
unfolding wrote
word-wrote sh [] c t x k e = absurd (cc)
word-wrote sh (n ∷ cs) c t x k e = go (n.core.0 == c) (n.tid.0 == t) (stores_word sh.base n.stores x) refl e
    (word-wrote sh cs c t x (λ m q. k m (suc q.0, omega arith, q.2)))
  where
    go : (a b d : Bool) → stores_word sh.base n.stores x ≡ d → ((a && (b && d)) || wrote sh.base cs c t x) ≡ true
        → (wrote sh.base cs c t x ≡ true → WordInMemory sh x) → WordInMemory sh x
    go a b true q f r = (k n (0, omega arith, refl)).stored x q
    go true true false q f r = r f
    go true false false q f r = r f
    go false b false q f r = r f

pub written_in_memory : WrittenInMemory
unfolding wrote_line
written_in_memory sh cs k c t l e = line-memory sh (wrote sh.base cs c t) (λ x f. word-wrote sh cs c t x k f) l e

-- A core whose frames are of lines of memory sends words home of such lines alone.

-- no words of a line outside memory are among these messages
abbrev NoneOutside : Shape → List Msg → Type 0
NoneOutside sh ms = (l t : ℕ) → lines sh ≤ l → among (CopyOf l t) ms ≡ 0

abbrev pub SendsInMemory : Shape → Sends → Type 0
SendsInMemory sh sends = (d : ℕ) → NoneOutside sh (sends (Dir d))

none-outside : (sh : Shape) → NoneOutside sh []
unfolding among
none-outside sh l t o = refl

nothing-sent : (sh : Shape) → SendsInMemory sh nothing
nothing-sent sh d = none-outside sh

-- words of a frame
dirty-memory : {sh : Shape} {c : Cache} (l : ℕ) → IsCache sh c → FramesInMemory sh c → is_dirty c l ≡ true → l < lines sh
unfolding is_dirty
dirty-memory {c} l k f e = let x = line-found (λ w. is_some (c.dirty w)) l e in
    rw x.1 at (f (line_of x.0) (go x.0 (c.held (line_of x.0)) refl (k.dirty x.0 x.2)))
  where
    go : (x : ℕ) (b : Bool) → c.held (line_of x) ≡ b → is_some (c.value x) ≡ true → c.held (line_of x) ≡ true
    go x a q v = grind nats

another : (sh : Shape) (k l : ℕ) → k < lines sh → lines sh ≤ l → (k == l) ≡ false
another sh k l i o = grind nats

-- lines with dirty words are of memory
abbrev pub DirtyInMemory : Shape → Cache → Type 0
DirtyInMemory sh c = (l : ℕ) → is_dirty c l ≡ true → l < lines sh

flushed-memory : (sh : Shape) (c : Cache) (k : ℕ) → DirtyInMemory sh c → SendsInMemory sh (flush_line sh c k)
unfolding flush_line dirty_copy among passes
flushed-memory sh c k f d l t o = go (d == home sh k) (is_dirty c k) refl
  where
    go : (a b : Bool) → is_dirty c k ≡ b
        → among (CopyOf l t) (if a
        then flush_of (cond b (Some (record { line = k; mask = dirty_mask c k; words = dirty_words c k; tag = dirty_tag c k })) None)
        else []) ≡ 0
    go false b q = refl
    go true false q = refl
    go true true q = rw (another sh k l (f k q) o)

written-memory : (sh : Shape) (c : Cache) (k : ℕ) → DirtyInMemory sh c → SendsInMemory sh (write_back_line sh c k)
unfolding write_back_line dirty_copy among passes
written-memory sh c k f d l t o = go (d == home sh k) (is_dirty c k) refl
  where
    go : (a b : Bool) → is_dirty c k ≡ b
        → among (CopyOf l t) (if a
        then write_back_of (cond b (Some (record { line = k; mask = dirty_mask c k; words = dirty_words c k; tag = dirty_tag c k }))
        None) else []) ≡ 0
    go false b q = refl
    go true false q = refl
    go true true q = rw (another sh k l (f k q) o)

-- what goes out at a commit of a core that is alone
backs-memory : (sh : Shape) (sp : Spilled) (u n : ℕ) (p : ℕ → Bool) → n ≤ lines sh
    → NoneOutside sh (flat_map (λ k. WriteBack k (spilled_mask sp k) (spilled_words sp k) u ∷ []) (those p n))
unfolding those among passes
backs-memory sh sp u zero p i l t o = refl
backs-memory sh sp u (suc n) p i l t o =
    rw flat_map-append (rw among-append (omega (arith, backs-memory sh sp u n p (omega arith) l t o, last)))
  where
    last : (b : Bool)
        → among (CopyOf l t) (flat_map (λ k. WriteBack k (spilled_mask sp k) (spilled_words sp k) u ∷ []) (cond b (n ∷ []) [])) ≡ 0
    last a = grind nats

both-outside : (sh : Shape) (a b : List Msg) → NoneOutside sh a → NoneOutside sh b → NoneOutside sh (a ++ b)
both-outside sh a b x y l t o = omega (arith, among-append, x, y)

marks-memory : (sh : Shape) (f : ℕ → ℕ) (u : ℕ) (ls : List ℕ) → NoneOutside sh (flat_map (λ k. Mark k (f k) u ∷ []) ls)
unfolding among passes
marks-memory sh f u ls l t o = among-flat_map_none (CopyOf l t) (λ k. Mark k (f k) u ∷ []) (λ k. refl) ls

solo-memory : (sh : Shape) (c : Cache) (sp : Spilled) (u : ℕ) → SendsInMemory sh (solo_sends sh c sp u)
unfolding solo_sends solo_marks_or_skip solo_write_backs among passes
solo-memory sh c sp u d = go (nat_lt d sh.dirs) (solo_writes_at sh c sp d)
  where
    marks : List Msg
    marks = flat_map (λ k. Mark k (written_mask c sp k) u ∷ []) (those (λ k. d == home sh k && is_written c sp k) (lines sh))

    last : List Msg
    last = Commit u (count_below (λ k. d == home sh k && is_written c sp k) (lines sh)) ∷ []

    backs : NoneOutside sh (solo_write_backs sh sp u d)
    backs = backs-memory sh sp u (lines sh) (λ k. d == home sh k && holds sp k) (omega arith)

    go : (b w : Bool) → NoneOutside sh (if b then (if w then marks ++ last else Skip u ∷ []) ++ solo_write_backs sh sp u d else [])
    go false w = none-outside sh
    go true true = both-outside sh (marks ++ last) (solo_write_backs sh sp u d)
        (both-outside sh marks last (marks-memory sh (written_mask c sp) u (those (λ k. d == home sh k && is_written c sp k) (lines sh)))
        (λ l t o. refl)) backs
    go true false = both-outside sh (Skip u ∷ []) (solo_write_backs sh sp u d) (λ l t o. refl) backs

-- what a core sends has words of lines in memory alone
said-memory : (sh : Shape) (s : CoreState) (q : Said) → DirtyInMemory sh s.cache → SendsInMemory sh (say sh s q)
unfolding passes
said-memory sh s (Flushes k) f = flushed-memory sh s.cache k f
said-memory sh s (Empties k) f = written-memory sh s.cache k f
said-memory sh s (Tells_alone t) f = solo-memory sh s.cache s.spilled t
said-memory sh s q f = λ d l t o. quiet sh s (CopyOf l t) q (λ x. refl) d

pub exec-copies : (sh : Shape) (p : Program) (c : ℕ) (s : CoreState) → DirtyInMemory sh s.cache
    → IfSome (core_exec sh p c s) (λ o. SendsInMemory sh o.sends)
unfolding commit solo_commit
exec-copies sh p c s f = each-exec sh p c s (λ o. SendsInMemory sh o.sends) go
  where
    go : (x : Did sh p c s) → SendsInMemory sh (out x).sends
    go (Room_wanted r n) = said-memory sh s Wants f
    go x = said-memory sh s (said x) f

pub evict-copies : (sh : Shape) (x y : ℕ) (s : CoreState) → DirtyInMemory sh s.cache
    → IfSome (core_evict sh x y s) (λ o. SendsInMemory sh o.sends)
evict-copies sh x y s f = each-evict sh x y s (λ o. SendsInMemory sh o.sends) (λ l e a m. written-memory sh s.cache l f)

pub grant-sent : (sh : Shape) (t : ℕ) (s : CoreState) → SendsInMemory sh (grant sh t s).sends
unfolding passes
grant-sent sh t s = each-grant sh t s (λ o. SendsInMemory sh o.sends) go
  where
    go : (x : Granted sh t s) → SendsInMemory sh (granted x).sends
    go (Given_none e) = nothing-sent sh
    go x = λ d l u o. quiet sh s (CopyOf l u) (granted_said x) (λ y. refl) d

pub back-copies : (sh : Shape) (e : ℕ) (s : CoreState) (m : Msg) → DirtyInMemory sh s.cache
    → IfSome (from_dir sh e s m) (λ o. SendsInMemory sh o.sends)
unfolding passes
back-copies sh e s m f = each-back sh e s (λ m o. SendsInMemory sh o.sends) go m
  where
    go : (x : Heard sh e s) → SendsInMemory sh (heard x).sends
    go (Hands_out k) = flushed-memory sh s.cache k f
    go x = λ d l t o. heard-quiet (CopyOf l t) x (λ y. refl) (λ b. refl) d

-- dirty words stand in frames, so it is of a cache whose frames are of lines of memory
pub exec-sends : (sh : Shape) (p : Program) (c : ℕ) (s : CoreState) → IsCache sh s.cache → FramesInMemory sh s.cache
    → IfSome (core_exec sh p c s) (λ o. SendsInMemory sh o.sends)
exec-sends sh p c s i f = exec-copies sh p c s (λ l. dirty-memory l i f)

pub evict-sends : (sh : Shape) (x y : ℕ) (s : CoreState) → IsCache sh s.cache → FramesInMemory sh s.cache
    → IfSome (core_evict sh x y s) (λ o. SendsInMemory sh o.sends)
evict-sends sh x y s i f = evict-copies sh x y s (λ l. dirty-memory l i f)

pub back-sends : (sh : Shape) (e : ℕ) (s : CoreState) (m : Msg) → IsCache sh s.cache → FramesInMemory sh s.cache
    → IfSome (from_dir sh e s m) (λ o. SendsInMemory sh o.sends)
back-sends sh e s m i f = back-copies sh e s m (λ l. dirty-memory l i f)
