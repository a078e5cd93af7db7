-- What a core holds of a line, valid words that aren't modified or are marked read, and which events may let it hold one.
use Rattle.theorem_serial.proofs
use proofs.Names
use Names.{ℕ, ◌≡◌, ◌<◌, ◌⊎◌, ◌==◌, ◌&&◌, ◌||◌, Bool, true, false, not, Option, Some, None, is_some, if◌then◌else◌, refl, inl, inr}
use Names.{any_below, any_word, word_at, line_of, hit, Cache, is_modified, marked, stored, invalidated, evicted, evicted_line, rolled_back}
use Names.{read_cleared, committed, words_dropped, Spilled, any_below-found, any_below-at, keeps_unmodified, nats, IfSome, sym, ◌∙◌, Noted}
use Names.{Program, word_of, Shape, set_of, free_way, placed, placed_at, holds, CoreState, Phase, Running, Ready, Solo, Out, commit}
use Names.{committed_core, noted, solo_commit, is_written, grant, core_exec, core_evict, is_fresh, OneCore, Words, acting, names_line, put}
use Names.{none_spilled, DoomedTid, moves, List, arith, Dir, Msg, ProbeReply, Inv, home, keeps, filled, cleaned, Awaited, nothing, from_dir}
use Names.{staled, is_awaited, FillOf, GoneOf, InvOf, among, passes, ◌/◌, tested}
use proofs.Marks.CoreMarks.{unspilled, modified-line, written-line}
use proofs.OneCore.{Acts, Buffers, Commits_now, Did, Ends_alone, Ends_run, Finds, Frames, Frames_anew, Given_none, Granted, Idles, Misses}
use proofs.OneCore.{Misses_anew, Reads, Room_wanted, after_end, each-evict, each-exec, each-grant, emptied, granted, out, Last_room, Fills}
use proofs.OneCore.{Fills_none, Heard, Hurt_alone, Hurt_probing, Hurt_running, Hurt_waiting, Hurt_none, acked, each-back, heard, message}
use proofs.OneCore.{rolled, Aborts_all, Silent, Skips_all, Unheard, acked-quiet, quiet, say}
use proofs.OneCore.Said.{Said}

-- Which changes of a cache keep what a core holds of a line: valid words that aren't modified or are marked read.

-- the word is valid, and not modified or marked read
abbrev pub is_kept : Cache → (word : ℕ) → Bool
is_kept c w = is_some (c.value w) && (not (c.modified w) || c.read w)

-- each word of the line that is kept in the other cache is in this one
abbrev pub Fewer : Cache → Cache → (line : ℕ) → Type 0
Fewer c e l = (k : ℕ) → k < 8 → is_kept e (word_at l k) ≡ true → is_kept c (word_at l k) ≡ true

fewer-kept : (c e : Cache) (l : ℕ) → Fewer c e l → keeps_unmodified e l ≡ true → keeps_unmodified c l ≡ true
unfolding keeps_unmodified any_word
fewer-kept c e l h q = let x = any_below-found (λ k. is_kept e (word_at l k)) 8 q in
    any_below-at (λ k. is_kept c (word_at l k)) 8 x.0 x.1 (h x.0 x.1 x.2)

fewer-marked : (w l : ℕ) (c : Cache) → Fewer c (marked w c) l
unfolding marked
fewer-marked w l c k i q = go (is_some (c.value (word_at l k))) (c.modified (word_at l k)) (c.read (word_at l k)) (w == word_at l k) q
  where
    go : (v m r b : Bool) → (v && (not m || (if b then r || not m else r))) ≡ true → (v && (not m || r)) ≡ true
    go a m r b q = grind nats

-- a stored word was kept before where it is marked read now
fewer-stored : (w x l : ℕ) (also : Bool) (c : Cache) → (also ≡ true → (is_some (c.value w) ≡ true) × (c.modified w ≡ false))
    → (c.read w ≡ true → is_some (c.value w) ≡ true) → Fewer c (stored w x also c) l
unfolding stored
fewer-stored w x l also c f g k i q = go (word_at l k) (word_at l k == w) refl q
  where
    same : (v : ℕ) → (v == w) ≡ true → v ≡ w
    same v e = grind nats

    here : (a : Bool) → also ≡ a → (b : Bool) → c.read w ≡ b → (a || b) ≡ true → is_kept c w ≡ true
    here a e b r q = grind nats

    go : (v : ℕ) (b : Bool) → (v == w) ≡ b
        → (is_some (if v == w then Some x else c.value v)
        && (not (if v == w then true else c.modified v) || (if w == v then also || c.read v else c.read v))) ≡ true → is_kept c v ≡ true
    go v a e q = grind nats

fewer-invalidated : (k m l : ℕ) (c : Cache) → Fewer c (invalidated k m c) l
unfolding invalidated
fewer-invalidated k m l c j i q = go (hit k m (word_at l j) && not (c.modified (word_at l j))) (c.value (word_at l j))
    (c.modified (word_at l j)) (c.read (word_at l j)) q
  where
    go : (b : Bool) (v : Option ℕ) (m r : Bool) → (is_some (if b then None else v) && (not m || r)) ≡ true
        → (is_some v && (not m || r)) ≡ true
    go a v m r q = grind nats

fewer-rolled : (l : ℕ) (c : Cache) → Fewer c (rolled_back c) l
unfolding rolled_back
fewer-rolled l c j i q = go (c.value (word_at l j)) (c.modified (word_at l j)) (c.read (word_at l j)) q
  where
    go : (v : Option ℕ) (m r : Bool) → (is_some (if m then None else v) && true) ≡ true → (is_some v && (not m || r)) ≡ true
    go v a r q = grind nats

fewer-cleared : (l : ℕ) (c : Cache) → Fewer c (read_cleared c) l
unfolding read_cleared
fewer-cleared l c j i q = go (is_some (c.value (word_at l j))) (c.modified (word_at l j)) (c.read (word_at l j)) q
  where
    go : (v m r : Bool) → (v && (not m || false)) ≡ true → (v && (not m || r)) ≡ true
    go a m r q = grind nats

fewer-evicted : (x y l : ℕ) (c : Cache) → Fewer c (evicted x y c) l
unfolding evicted evicted_line
fewer-evicted x y l c = go (c.at x y)
  where
    one : (v : Option ℕ) (m r b : Bool) → (is_some (if b then None else v) && (not (if b then false else m) || (if b then false else r)))
        ≡ true → (is_some v && (not m || r)) ≡ true
    one v m r a q = grind nats

    go : (a : Option ℕ) → Fewer c (evicted_line a x y c) l
    go None j i q = q
    go (Some k) j i q = one (c.value (word_at l j)) (c.modified (word_at l j)) (c.read (word_at l j)) (k == line_of (word_at l j)) q

-- what a commit adds to what is kept was modified
abbrev KeptOrModified : Cache → Cache → (line : ℕ) → Type 0
KeptOrModified c e l = (k : ℕ) → k < 8 → is_kept e (word_at l k) ≡ true
    → (is_kept c (word_at l k) ≡ true) ⊎ (c.modified (word_at l k) ≡ true)

either-kept : (c e : Cache) (l : ℕ) → KeptOrModified c e l → keeps_unmodified e l ≡ true
    → (keeps_unmodified c l ≡ true) ⊎ (is_modified c l ≡ true)
unfolding keeps_unmodified is_modified any_word
either-kept c e l h q = let x = any_below-found (λ k. is_kept e (word_at l k)) 8 q in go x.0 x.1 (h x.0 x.1 x.2)
  where
    go : (k : ℕ) → k < 8 → (is_kept c (word_at l k) ≡ true) ⊎ (c.modified (word_at l k) ≡ true)
        → (any_below (λ k. is_kept c (word_at l k)) 8 ≡ true) ⊎ (any_below (λ k. c.modified (word_at l k)) 8 ≡ true)
    go k i (inl y) = inl (any_below-at (λ k. is_kept c (word_at l k)) 8 k i y)
    go k i (inr y) = inr (any_below-at (λ k. c.modified (word_at l k)) 8 k i y)

kept-committed : (u l : ℕ) (c : Cache) → keeps_unmodified (committed u c) l ≡ true
    → (keeps_unmodified c l ≡ true) ⊎ (is_modified c l ≡ true)
unfolding committed
kept-committed u l c =
    either-kept c (committed u c) l (λ k i q. one (is_some (c.value (word_at l k))) (c.modified (word_at l k)) (c.read (word_at l k)) q)
  where
    one : (v m r : Bool) → (v && true) ≡ true → ((v && (not m || r)) ≡ true) ⊎ (m ≡ true)
    one v true r q = inr refl
    one v false r q = inl q

kept-alone : (u l : ℕ) (sp : Spilled) (c : Cache) → keeps_unmodified (committed u (words_dropped sp c)) l ≡ true
    → (keeps_unmodified c l ≡ true) ⊎ (is_modified c l ≡ true)
unfolding committed words_dropped
kept-alone u l sp c = either-kept c (committed u (words_dropped sp c)) l
    (λ k i q. one (is_some (sp (word_at l k))) (c.value (word_at l k)) (c.modified (word_at l k)) (c.read (word_at l k)) q)
  where
    one : (s : Bool) (v : Option ℕ) (m r : Bool) → (is_some (if s then None else v) && true) ≡ true → ((is_some v && (not m || r)) ≡ true)
        ⊎ (m ≡ true)
    one true v m r q = absurd (cc)
    one false v true r q = inr refl
    one false v false r q = inl q

-- By an instruction, an eviction or a grant a core comes to hold a line only by a commit that stored in it.

-- the core commits, and its commit stored in the line
pub record StoredLine (sh : Shape) (l : ℕ) (o : Out) : Type 0 where
  pub commit : Noted
  pub noted : o.commit ≡ Some commit
  pub line : names_line sh.base commit.stores l ≡ true

pub record Holds (sh : Shape) (l : ℕ) (s : CoreState) (o : Out) : Type 0 where
  pub kept : keeps_unmodified o.core.cache l ≡ true → (keeps_unmodified s.cache l ≡ true) ⊎ StoredLine sh l o
  pub fresh : is_fresh o.core.awaited ≡ true → (is_fresh s.awaited ≡ true) ⊎ (s.awaited ≡ None)

-- words that are marked read are valid
abbrev pub ReadsValid : Cache → Type 0
ReadsValid c = (x : ℕ) → c.read x ≡ true → is_some (c.value x) ≡ true

abbrev KeptBy : Shape → (line : ℕ) → CoreState → Out → Type 0
KeptBy sh l s o = keeps_unmodified o.core.cache l ≡ true → (keeps_unmodified s.cache l ≡ true) ⊎ StoredLine sh l o

by-fewer : (sh : Shape) (l : ℕ) (s : CoreState) (o : Out) → Fewer s.cache o.core.cache l → KeptBy sh l s o
by-fewer sh l s o h q = inl (fewer-kept s.cache o.core.cache l h q)

placed-fewer : (sh : Shape) (k l : ℕ) (c : Cache) → Fewer c (placed sh k c) l
unfolding placed placed_at
placed-fewer sh k l c = go (free_way sh c (set_of sh k))
  where
    go : (a : Option ℕ) → Fewer c (placed_at a (set_of sh k) k c) l
    go None i j q = q
    go (Some y) i j q = q

placed-reads : (sh : Shape) (k : ℕ) (c : Cache) → ReadsValid c → ReadsValid (placed sh k c)
unfolding placed placed_at
placed-reads sh k c h = elim (free_way sh c (set_of sh k)) as (λ a. ReadsValid (placed_at a (set_of sh k) k c)) [ None ↦ h | Some y ↦ h ]

-- commits
ready-kept : (sh : Shape) (l id u : ℕ) (s : CoreState) → s.phase ≡ Ready u → OneCore sh s → KeptBy sh l s (commit sh id u s)
unfolding commit committed_core noted names_line
ready-kept sh l id u s e h q = elim (kept-committed u l s.cache q) [
  | inl y ↦ inl y
  | inr y ↦ inr (record {
    commit = noted u id s;
    noted = refl;
    line = sym (modified-line sh.base s.cache s.stores l (unspilled sh s.cache s.spilled s.stores (rw e at h.words))) ∙ y;
  })
]

alone-kept : {sh : Shape} {b : Bool} (l id u : ℕ) (s : CoreState) → Words sh b s.cache s.spilled s.stores
    → KeptBy sh l s (solo_commit sh id u s)
unfolding solo_commit committed_core noted names_line is_written
alone-kept {sh} l id u s h q = elim (kept-alone u l s.spilled s.cache q) [
  | inl y ↦ inl y
  | inr y ↦ inr (record {
    commit = noted u id s;
    noted = refl;
    line = sym (written-line sh.base s.cache s.spilled s.stores l h.named) ∙ first (holds s.spilled l) y;
  })
]
  where
    first : {x : Bool} (y : Bool) → x ≡ true → (x || y) ≡ true
    first y e = grind nats

pub holds-exec : {sh : Shape} (l : ℕ) (p : Program) (id : ℕ) {s : CoreState} → OneCore sh s → (acting s.phase ≡ true → ReadsValid s.cache)
    → IfSome (core_exec sh p id s) (Holds sh l s)
unfolding commit committed_core
holds-exec {sh} l p id {s} h v = each-exec sh p id s (Holds sh l s) go
  where
    w : ℕ → ℕ
    w a = word_of sh.base a

    acts-valid : (q : Phase) → s.phase ≡ q → Acts q → ReadsValid s.cache
    acts-valid Running e a = v (rw e)
    acts-valid (Solo t) e a = v (rw e)
    acts-valid _ e a = absurd a

    fewer : (o : Out) → s.awaited ≡ None → Fewer s.cache o.core.cache l → Holds sh l s o
    fewer o i f = record { kept = by-fewer sh l s o f; fresh = λ q. inr i }

    go : (x : Did sh p id s) → Holds sh l s (out x)
    go (Reads a x z b g r f) = fewer _ g.idle (fewer-marked (w a) l s.cache)
    go (Frames a y also n k g i f) =
        fewer _ g.idle (fewer-stored (w a) y l also s.cache f.read (acts-valid s.phase refl g.acts (w a)))
    go (Frames_anew a y n k g i q f o) = fewer _ g.idle (λ j b z. placed-fewer sh (line_of (w a)) l s.cache j b
        (fewer-stored (w a) y l false (placed sh (line_of (w a)) s.cache) (λ q. absurd (cc))
        (placed-reads sh (line_of (w a)) s.cache (acts-valid s.phase refl g.acts) (w a)) j b z))
    go (Misses_anew a n g i q f) = fewer _ g.idle (placed-fewer sh (line_of (w a)) l s.cache)
    go (Ends_alone t b e f r i) = record { kept = alone-kept l id t (after_end s b e) h.words; fresh = λ q. inr i }
    go (Commits_now t e) = record { kept = ready-kept sh l id t s e h; fresh = inl }
    go (Idles n b bytes g) = fewer _ g.idle (λ j b q. q)
    go (Finds a x z b g f) = fewer _ g.idle (λ j b q. q)
    go (Buffers a y u n k g i q f) = fewer _ g.idle (λ j b q. q)
    go (Misses a n g i q) = fewer _ g.idle (λ j b q. q)
    go (Room_wanted r i) = fewer _ i (λ j b q. q)
    go (Ends_run b e f r i) = fewer _ i (λ j b q. q)

pub holds-evict : (sh : Shape) (l x y : ℕ) (s : CoreState) → IfSome (core_evict sh x y s) (Holds sh l s)
holds-evict sh l x y s = each-evict sh x y s (Holds sh l s)
    (λ k e a m. record { kept = by-fewer sh l s (emptied sh x y k s) (fewer-evicted x y l s.cache); fresh = inl })

pub holds-grant : {sh : Shape} (l u : ℕ) {s : CoreState} → Holds sh l s (grant sh u s)
holds-grant {sh} l u {s} = each-grant sh u s (Holds sh l s) go
  where
    go : (x : Granted sh u s) → Holds sh l s (granted x)
    go (Given_none e) = record { kept = inl; fresh = inl }
    go _ = record { kept = inl; fresh = inl }

-- By a message a core comes to hold a line only by the Fill that it awaits; and where it says that it keeps no word it holds none.

pub record HoldsBack (l : ℕ) (s : CoreState) (m : Msg) (o : Out) : Type 0 where
  pub kept : keeps_unmodified o.core.cache l ≡ true
      → (keeps_unmodified s.cache l ≡ true) ⊎ ((passes (FillOf l) m ≡ true) × (is_fresh s.awaited ≡ true))
  pub fresh : is_fresh o.core.awaited ≡ true → is_fresh s.awaited ≡ true

-- the core holds nothing of the line: it keeps no word, and a line that it awaits is stale
pub record Gone (l : ℕ) (s : CoreState) : Type 0 where
  pub kept : keeps_unmodified s.cache l ≡ false
  pub stale : is_awaited s.awaited l ≡ true → is_fresh s.awaited ≡ false

still : {l : ℕ} {s : CoreState} {m : Msg} {o : Out} → Fewer s.cache o.core.cache l
    → (is_fresh o.core.awaited ≡ true → is_fresh s.awaited ≡ true) → HoldsBack l s m o
still {l} {s} {o} h f = record { kept = λ q. inl (fewer-kept s.cache o.core.cache l h q); fresh = f }

-- a Fill of line k adds no word of another
filled-kept : (k l : ℕ) (ws : List ℕ) (c : Cache) → keeps_unmodified (filled k ws c) l ≡ true
    → (keeps_unmodified c l ≡ true) ⊎ ((k == l) ≡ true)
unfolding filled
filled-kept k l ws c q = elim (tested (k == l)) [
  | inl e ↦ inr e
  | inr e ↦ inl (fewer-kept c (filled k ws c) l
      (λ j i r. (let z : (word_at l j) / 8 ≡ l = omega arith in let y : (k == (word_at l j) / 8) ≡ false = rw (z, e) in
      rw y at r)) q)
]

-- invalidations
keeps-none : (c : Cache) (l : ℕ) → keeps c l ≡ false → keeps_unmodified c l ≡ false
unfolding keeps keeps_unmodified any_word
keeps-none c l e = go (keeps_unmodified c l) refl
  where
    valid : (v r : Bool) → (v && r) ≡ true → v ≡ true
    valid a r q = grind nats

    go : (b : Bool) → keeps_unmodified c l ≡ b → b ≡ false
    go false q = refl
    go true q = absurd (let x = any_below-found (λ k. is_kept c (word_at l k)) 8 q in
        let y = any_below-at (λ k. is_some (c.value (word_at l k))) 8 x.0 x.1
        (valid (is_some (c.value (word_at l x.0))) (not (c.modified (word_at l x.0)) || c.read (word_at l x.0)) x.2) in cc)

staled-fresh : (k : ℕ) (a : Option Awaited) → is_fresh (staled k a) ≡ true → is_fresh a ≡ true
staled-fresh k a q = grind nats

staled-stale : (k : ℕ) (a : Option Awaited) → is_awaited (staled k a) k ≡ true → is_fresh (staled k a) ≡ false
staled-stale k a q = grind nats

-- what any message does
pub record HoldsTaken (sh : Shape) (l : ℕ) (s : CoreState) (m : Msg) (o : Out) : Type 0 where
  pub holds : HoldsBack l s m o
  pub gone : passes (InvOf l) m ≡ true → (among (GoneOf l) (o.sends (Dir (home sh l))) ≡ 0) ⊎ Gone l o.core

pub holds-back : (sh : Shape) (l e : ℕ) (s : CoreState) (m : Msg) → IfSome (from_dir sh e s m) (HoldsTaken sh l s m)
unfolding passes cleaned
holds-back sh l e s m = each-back sh e s (HoldsTaken sh l s) go m
  where
    other : (m : Msg) (o : Out) → passes (InvOf l) m ≡ false → Fewer s.cache o.core.cache l
        → (is_fresh o.core.awaited ≡ true → is_fresh s.awaited ≡ true) → HoldsTaken sh l s m o
    other m o n h f = record { holds = still h f; gone = λ q. absurd (cc) }

    -- the words of the awaited line come
    added : (k : ℕ) (ws : List ℕ) {a : Awaited} → s.awaited ≡ Some a → a.stale ≡ false
        → (keeps_unmodified s.cache l ≡ true) ⊎ ((k == l) ≡ true)
        → (keeps_unmodified s.cache l ≡ true) ⊎ (((k == l) ≡ true) × (is_fresh s.awaited ≡ true))
    added k ws q f (inl y) = inl y
    added k ws q f (inr y) = inr (y, rw (q, f))

    -- an invalidation: where the core keeps no word of the line it says so, and holds nothing
    hurt : (k m u : ℕ) (r : CoreState) (q : Said) → Fewer (invalidated k m s.cache) r.cache l → r.awaited ≡ staled k s.awaited
        → Unheard (GoneOf l) q → HoldsTaken sh l s (Inv k m u) (acked sh k r (say sh s q))
    hurt k m u r q f e h = record {
      holds = still (λ j i z. fewer-invalidated k m l s.cache j i (f j i z)) (λ z. staled-fresh k s.awaited (rw e at z));
      gone = λ z. gone (grind nats) (keeps r.cache k) refl;
    }
      where
        gone : k ≡ l → (b : Bool) → keeps r.cache k ≡ b → (among (GoneOf l) ((acked sh k r (say sh s q)).sends (Dir (home sh l))) ≡ 0)
            ⊎ Gone l r
        gone z true y =
            inl (omega (
              arith,
              acked-quiet sh (GoneOf l) k (keeps r.cache k) (say sh s q) (home sh l) (rw y (no (k == l))),
              quiet sh s
                  (GoneOf l) q h (home sh l),
            ))
          where
            no : (b : Bool) → (b && false) ≡ false
            no a = grind nats
        gone z false y =
            inr (rw (sym z) (record { kept = keeps-none r.cache k y; stale = λ x. rw e (staled-stale k s.awaited (rw e at x)) }))

    go : (x : Heard sh e s) → HoldsTaken sh l s (message x) (heard x)
    go (Last_room u v q o r) =
        other (ProbeReply u v) (moves (record s { owing = put s.owing e false; phase = Solo u; cache = read_cleared s.cache }) nothing) refl
        (fewer-cleared l s.cache) (λ q. q)
    go (Fills k ws a q i f) =
        record {
          holds = record { kept = λ z. added k ws q f (filled-kept k l ws s.cache z); fresh = λ z. absurd (cc) };
          gone = λ z. absurd (cc);
        }
    go (Fills_none k ws a q i f) = record { holds = record { kept = inl; fresh = λ z. absurd (cc) }; gone = λ z. absurd (cc) }
    go (Hurt_none k m u n) = hurt k m u (record s { cache = invalidated k m s.cache; awaited = staled k s.awaited }) Silent
        (λ j i q. q) refl (λ y. refl)
    go (Hurt_running k m u v q) = hurt k m u (rolled k m s Running s.spilled) Silent (fewer-rolled l (invalidated k m s.cache)) refl
        (λ y. refl)
    go (Hurt_waiting k m u v q) = hurt k m u (rolled k m s DoomedTid s.spilled) Silent (fewer-rolled l (invalidated k m s.cache)) refl
        (λ y. refl)
    go (Hurt_probing k m u t v q) = hurt k m u (rolled k m s Running s.spilled) (Aborts_all t)
        (fewer-rolled l (invalidated k m s.cache)) refl (λ y. refl)
    go (Hurt_alone k m u t v q) = hurt k m u (rolled k m s Running none_spilled) (Skips_all t)
        (fewer-rolled l (invalidated k m s.cache)) refl (λ y. refl)
    go x = other (message x) (heard x) refl (λ j i q. q) (λ q. q)
