-- What a core's events do to its checkpoint and its end: only an instruction commits; then that each core stays consistent.
use Rattle.theorem_attempt.specs.Follows.{Follows}
use Rattle.rules_program.specs.Ram.{part}
use Rattle.theorem_serial.proofs
use proofs.Names
use Names.{got, ℕ, ◌≡◌, Bool, None, IfSome, refl, any_below, Msg, Shape, CoreState, AwaitTid, Out, core_evict, grant, from_dir}
use Names.{probing_or_ready, is_probed, end_after, inl, inr, nats, arith, ◌+◌, suc, Option, Some, IsSomeAnd, subst, ◌⊎◌, Attempt, Goes}
use Names.{begun, steps, then_step, when_going, plain_step, Program, Need, Ends, Halts, Traps, Ready, Solo, finished, one_more_instruction}
use Names.{noted, commit, committed_core, solo_commit, phase_after_commit, ended_after_commit, core_exec, Uses, Agrees, IsSmall, Reaches}
use Names.{EndFits, HasEnded, FollowsIn, awaits_replies, load_of, put, stored, marked, IsCache, true, false, is_some, sym, ap, ◌∙◌, word_of}
use Names.{line_of, set_of, Cache, free_way, placed, placed_at, committed, none_spilled, words_dropped-keeps, Awaited, Phase, Running}
use Names.{Overflowing, is_solo, Words, OneCore, Empty, executes, rests, Spilled, cleaned, ◌≤◌, ◌==◌, [], nat_lt, cases_lt, is_marked}
use Names.{evicted, evicted_line, invalidated, rolled_back, DoomedTid, Probing, is_awaited, all_replied, words_invalidated, staled}
use Names.{if◌then◌else◌, Local, Event, empty_cache, empty-keeps, World, start, core_start, Answer, Waits, dir_deliver, core_moves}
use Names.{core_takes, dir_takes, dir_asks, vendor_gives, step, KeptCores}
use proofs.OneCore.Outcomes.{Last_probing, Last_room, Given, Given_doomed, Given_none, Given_room, Granted, Heard, Hurt_alone, Hurt_probing}
use proofs.OneCore.Outcomes.{Hurt_running, Hurt_waiting, each-back, each-evict, each-grant, granted, heard, Commits_now, Did, Ends_alone}
use proofs.OneCore.Outcomes.{Ends_run, IsEnd, Room_wanted, after_end, each-exec, out, Acts, awaiting, Acting, Buffers, Finds, Frames}
use proofs.OneCore.Outcomes.{Frames_anew, Idles, Misses, Misses_anew, Reads, after_load, after_store, Reply_probing, Fills_none, Reply_room}
use proofs.OneCore.Outcomes.{Hands_out, Hurt_none, rolled, Fills}
use proofs.OneCore.WordsKept.{words-marked, words-placed, words-stored, words-buffered, words-committed, words-evicted}
use proofs.OneCore.WordsKept.{words-evicted_unmarked, words-filled, words-invalidated, words-cleaned, words-rolled, words-alone, words-none}
use proofs.OneCore.CoreSteps.{none-below, all-replied}
use proofs.Counts.{OfAnswer, step_cases}

-- What comes to a core leaves its checkpoint and its end, and so does an eviction: only an instruction commits.

pub record CheckpointStays (s : CoreState) (o : Out) : Type 0 where
  pub commit : o.commit ≡ None
  pub saved : o.core.saved ≡ s.saved
  pub ends : end_after o.core.phase o.core.ended ≡ end_after s.phase s.ended

pub evict-stays : (sh : Shape) (x y : ℕ) (s : CoreState) → IfSome (core_evict sh x y s) (CheckpointStays s)
evict-stays sh x y s = each-evict sh x y s (CheckpointStays s) (λ l e a m. record { commit = refl; saved = refl; ends = refl })

pub grant-stays : (sh : Shape) (u : ℕ) (s : CoreState) → CheckpointStays s (grant sh u s)
grant-stays sh u s = each-grant sh u s (CheckpointStays s) go
  where
    awaited : (b : Bool) → s.phase ≡ AwaitTid → end_after (probing_or_ready b u) s.ended ≡ end_after s.phase s.ended
    awaited a e = grind nats

    go : (x : Granted sh u s) → CheckpointStays s (granted x)
    go (Given e) = record { commit = refl; saved = refl; ends = awaited (any_below (is_probed sh s.cache) sh.dirs) e }
    go (Given_doomed e) = record { commit = refl; saved = refl; ends = rw e }
    go (Given_room e) = record { commit = refl; saved = refl; ends = rw e }
    go (Given_none e) = record { commit = refl; saved = refl; ends = refl }

pub back-stays : (sh : Shape) (d : ℕ) (s : CoreState) (m : Msg) → IfSome (from_dir sh d s m) (CheckpointStays s)
back-stays sh d s m = each-back sh d s (λ m o. CheckpointStays s o) go m
  where
    go : (x : Heard sh d s) → CheckpointStays s (heard x)
    go (Last_probing u v q o r) = record { commit = refl; saved = refl; ends = rw q }
    go (Last_room u v q o r) = record { commit = refl; saved = refl; ends = rw q }
    go (Hurt_running l m u v q) = record { commit = refl; saved = refl; ends = rw q }
    go (Hurt_waiting l m u v (inl q)) = record { commit = refl; saved = refl; ends = rw q }
    go (Hurt_waiting l m u v (inr q)) = record { commit = refl; saved = refl; ends = rw q }
    go (Hurt_probing l m u t v (inl q)) = record { commit = refl; saved = refl; ends = rw q }
    go (Hurt_probing l m u t v (inr q)) = record { commit = refl; saved = refl; ends = rw q }
    go (Hurt_alone l m u t v (inl q)) = record { commit = refl; saved = refl; ends = rw q }
    go (Hurt_alone l m u t v (inr q)) = record { commit = refl; saved = refl; ends = rw q }
    go _ = record { commit = refl; saved = refl; ends = refl }

-- A core's event leaves its checkpoint and its end, or commits an attempt that the plain machine gives over its view.

-- how the plain machine's transaction leaves the core
pub record Gives (r : CoreState) (a : Attempt) : Type 0 where
  pub local : a.local ≡ r.local
  pub loads : a.loads ≡ r.loads
  pub stores : a.stores ≡ r.stores
  pub console : a.console ≡ r.console
  pub outcome : a.outcome ≡ r.ended

-- The core, alone or with all directories ready, commits what it has come to, r.
pub record Closing (sh : Shape) (p : Program) (c t : ℕ) (s r : CoreState) (o : Out) : Type 0 where
  pub phase : (s.phase ≡ Ready t) ⊎ (s.phase ≡ Solo t)
  pub commit : o.commit ≡ Some (noted t c r)
  pub saved : o.core.saved ≡ r.local
  pub after : o.core.phase ≡ phase_after_commit r.ended
  pub ended : o.core.ended ≡ ended_after_commit r.ended
  pub stores : r.stores ≡ s.stores
  pub ends : (us : Uses) → Follows sh p s us → HasEnded r.ended
  pub gives : (us : Uses) → Follows sh p s us → (ram : ℕ → ℕ) → IsSmall ram → Agrees us ram
      → IsSomeAnd (steps sh.base p r.n (begun s.saved ram)) (Gives r)

pub data Leaves (sh : Shape) (p : Program) (c : ℕ) (s : CoreState) (o : Out) : Type 0 where
  Stays : o.commit ≡ None → o.core.saved ≡ s.saved → end_after o.core.phase o.core.ended ≡ end_after s.phase s.ended → Leaves sh p c s o
  Closes : (t : ℕ) (r : CoreState) → Closing sh p c t s r o → Leaves sh p c s o

-- an attempt that ends
next-gives : (p : Program) (base : ℕ) {s : CoreState} {ram : ℕ → ℕ} {a : Attempt} (need : Need) → IsEnd need → Reaches s ram a
    → s.ended ≡ Goes → p.need s.local ≡ need → IsSomeAnd (when_going base p a a.outcome) (Gives (finished p need 0 s))
unfolding finished one_more_instruction plain_step
next-gives p base Ends i k e n =
    rw (k.outcome, e, k.local, n) (record { local = refl; loads = k.loads; stores = k.stores; console = k.console; outcome = refl })
next-gives p base (Halts x) i k e n =
    rw (k.outcome, e, k.local, n) (record { local = refl; loads = k.loads; stores = k.stores; console = k.console; outcome = refl })
next-gives p base (Traps x) i k e n =
    rw (k.outcome, e, k.local, n) (record { local = refl; loads = k.loads; stores = k.stores; console = k.console; outcome = refl })
next-gives p base _ i k e n = absurd i

last-gives : {sh : Shape} (p : Program) (s : CoreState) {us : Uses} {need : Need} (t : ℕ) → IsEnd need → s.phase ≡ Solo t
    → p.need s.local ≡ need → Follows sh p s us → (ram : ℕ → ℕ) → IsSmall ram → Agrees us ram
    → IsSomeAnd (steps sh.base p (suc s.n) (begun s.saved ram)) (Gives (finished p need 0 s))
unfolding steps
last-gives {sh} p s {us} {need} t i ph n f ram sm ag =
    let follows : FollowsIn sh p s us (Solo t) = subst (FollowsIn sh p s us) ph f.steps in
    go (steps sh.base p s.n (begun s.saved ram)) (follows ram sm ag)
  where
    goes : s.ended ≡ Goes
    goes = rw ph at f.ends

    go : (x : Option Attempt) → IsSomeAnd x (Reaches s ram) → IsSomeAnd (then_step sh.base p x) (Gives (finished p need 0 s))
    go None h = h
    go (Some a) h = next-gives p sh.base need i h goes n

ended-ends : (p : Program) (s : CoreState) (need : Need) → IsEnd need → HasEnded (finished p need 0 s).ended
unfolding finished one_more_instruction
ended-ends p s Ends i = refl
ended-ends p s (Halts k) i = refl
ended-ends p s (Traps k) i = refl
ended-ends p s _ i = absurd i

-- ready: the attempt has ended before
reaches-gives : (s : CoreState) (ram : ℕ → ℕ) (o : Option Attempt) → IsSomeAnd o (Reaches s ram) → IsSomeAnd o (Gives s)
reaches-gives s ram None h = h
reaches-gives s ram (Some a) h = record { local = h.local; loads = h.loads; stores = h.stores; console = h.console; outcome = h.outcome }

ready-leaves : (sh : Shape) (p : Program) (c t : ℕ) (s : CoreState) → s.phase ≡ Ready t → Leaves sh p c s (commit sh c t s)
unfolding commit committed_core
ready-leaves sh p c t s e = Closes t s (record {
  phase = inl e;
  commit = refl;
  saved = refl;
  after = refl;
  ended = refl;
  stores = refl;
  ends = λ us f. ends (rw e at f.ends);
  gives = λ us f ram sm ag. reaches-gives s ram (steps sh.base p s.n (begun s.saved ram))
      ((subst (FollowsIn sh p s us) e f.steps) ram sm ag);
})
  where
    ends : EndFits (Ready t) s.ended → HasEnded s.ended
    ends h = h

pub exec-leaves : (sh : Shape) (p : Program) (c : ℕ) (s : CoreState) → IfSome (core_exec sh p c s) (Leaves sh p c s)
unfolding solo_commit committed_core
exec-leaves sh p c s = each-exec sh p c s (Leaves sh p c s) go
  where
    go : (x : Did sh p c s) → Leaves sh p c s (out x)
    go (Room_wanted r i) = Stays refl refl (rw r)
    go (Ends_run l e f r i) = Stays refl refl (rw r)
    go (Ends_alone t l e f r i) = Closes t (after_end s l e) (record {
      phase = inr r;
      commit = refl;
      saved = refl;
      after = refl;
      ended = refl;
      stores = refl;
      ends = λ us g. subst (λ (v : CoreState). HasEnded v.ended) f.is (ended-ends p s f.need f.end);
      gives = λ us g ram sm ag. let c : suc s.n ≡ s.n + 1 = omega arith in
          subst (λ (m : ℕ). IsSomeAnd (steps sh.base p m (begun s.saved ram)) (Gives (after_end s l e))) c
          (subst (λ (v : CoreState). IsSomeAnd (steps sh.base p (suc s.n) (begun s.saved ram)) (Gives v)) f.is
          (last-gives p s t f.end r f.at g ram sm ag));
    })
    go (Commits_now t e) = ready-leaves sh p c t s e
    go _ = Stays refl refl refl

-- Every event keeps what holds of each core by itself, and so does every run.

-- Executing an instruction keeps what holds of a core by itself.

acts-execute : (q : Phase) → Acts q → executes q ≡ true
acts-execute b a = grind nats

acts-rest : (q : Phase) → Acts q → rests q ≡ true → ⊥
acts-rest Running a e = cc
acts-rest (Solo t) a e = cc
acts-rest _ a e = absurd a

-- a core that executes, with these words and stores
executing : {sh : Shape} {s r : CoreState} → Acts s.phase → r.phase ≡ s.phase → r.owing ≡ s.owing → OneCore sh s
    → Words sh (is_solo s.phase) r.cache r.spilled r.stores → ((a : Awaited) → r.awaited ≡ Some a → r.cache.held a.line ≡ true)
    → OneCore sh r
executing {s} a e f h w aw = record {
  words = rw e w;
  awaited = λ x q. (rw e (acts-execute s.phase a), aw x q);
  owing = λ d q. rw f (h.owing d (rw e at q));
  owers = λ d q. rw f (h.owers d q);
  rested = λ q. absurd (acts-rest s.phase a (rw e at q));
}

-- a valid word stands in a frame
framed-held : {sh : Shape} (s : CoreState) (w : ℕ) → IsCache sh s.cache
    → (s.cache.held (line_of w) ≡ true) ⊎ (is_some (s.cache.value w) ≡ true) → s.cache.held (line_of w) ≡ true
framed-held s w k a = grind nats

-- a running core awaits nothing, and waits in another phase
waits : {sh : Shape} (s : CoreState) (go : Phase) → s.phase ≡ Running → OneCore sh s → s.awaited ≡ None → is_solo go ≡ false
    → awaits_replies go ≡ false → rests go ≡ false → OneCore sh (record s { phase = go })
waits {sh} s go e h n a b c = record {
  words = rw a (subst (λ q. Words sh (is_solo q) s.cache s.spilled s.stores) e h.words);
  awaited = λ x q. absurd (cc);
  owing = λ d q. h.owing d (rw e);
  owers = h.owers;
  rested = λ q. absurd (cc);
}

pub placed-held : (sh : Shape) (l : ℕ) (c : Cache) → is_some (free_way sh c (set_of sh l)) ≡ true → (placed sh l c).held l ≡ true
unfolding placed placed_at
placed-held sh l c e = grind nats

marked_words : (sh : Shape) (w x : ℕ) (s : CoreState) → s.cache.value w ≡ Some x → s.phase ≡ Running
    → Words sh (is_solo s.phase) s.cache s.spilled s.stores → Words sh (is_solo s.phase) (marked w s.cache) s.spilled s.stores
marked_words sh w x s v e h = subst (λ q. Words sh (is_solo q) (marked w s.cache) s.spilled s.stores) (sym e)
    (words-marked sh s.cache w x s.spilled s.stores v (subst (λ q. Words sh (is_solo q) s.cache s.spilled s.stores) e h))

-- the transaction has ended

-- a core that has committed
committed_one : {sh : Shape} (s : CoreState) {r : CoreState} → r.phase ≡ phase_after_commit s.ended → ((d : ℕ) → r.owing d ≡ false)
    → r.awaited ≡ None → ((b : Bool) → Words sh b r.cache r.spilled r.stores) → Empty r → OneCore sh r
committed_one s {r} e o n w m = record {
  words = w (is_solo r.phase);
  awaited = λ a q. absurd (cc);
  owing = λ d q. o d;
  owers = λ d q. o d;
  rested = λ q. m;
}

commit_one : {sh : Shape} (id t : ℕ) (s : CoreState) → s.phase ≡ Ready t → OneCore sh s → OneCore sh (commit sh id t s).core
unfolding commit committed_core committed
commit_one id t s e h = committed_one s refl (λ d. h.owing d (rw e)) (idle s.awaited refl)
    (λ b. words-committed b t s.spilled h.words.cache (h.words.spilled_alone (rw e)))
    (record { n = refl; loads = refl; stores = refl; console = refl; unread = λ w. refl; unmodified = λ w. refl })
  where
    idle : (a : Option Awaited) → s.awaited ≡ a → a ≡ None
    idle None q = refl
    idle (Some a) q = let x = h.awaited a q in let y : executes s.phase ≡ false = rw e in absurd (let z = x.0 in cc)

pub exec_one : (sh : Shape) (p : Program) (id : ℕ) (s : CoreState) → OneCore sh s → IfSome (core_exec sh p id s) (λ o. OneCore sh o.core)
unfolding solo_commit committed_core committed none_spilled
exec_one sh p id s h = each-exec sh p id s (λ o. OneCore sh o.core) go
  where
    w : ℕ → ℕ
    w a = word_of sh.base a

    k : Words sh (is_solo s.phase) s.cache s.spilled s.stores
    k = h.words

    done : {need : Need} (r : CoreState) → Acting p s need → r.phase ≡ s.phase → r.owing ≡ s.owing → r.awaited ≡ s.awaited
        → Words sh (is_solo s.phase) r.cache r.spilled r.stores → OneCore sh r
    done r g e f a y = executing g.acts e f h y (λ b q. let z : None ≡ Some b = sym (a ∙ g.idle) ∙ q in absurd (cc))

    asked : {need : Need} (l : ℕ) (r : CoreState) → Acting p s need → r.phase ≡ s.phase → r.owing ≡ s.owing → r.awaited ≡ awaiting l
        → Words sh (is_solo s.phase) r.cache r.spilled r.stores → r.cache.held l ≡ true → OneCore sh r
    asked l r g e f a y d = executing g.acts e f h y (λ b q. let i : b.line ≡ l = sym (ap line_or_none (sym a ∙ q)) in rw i d)
      where
        line_or_none : Option Awaited → ℕ
        line_or_none None = l
        line_or_none (Some b) = b.line

    anew : (l : ℕ) → s.cache.held l ≡ false → Words sh (is_solo s.phase) (placed sh l s.cache) s.spilled s.stores
    anew l e = words-placed l e k

    go : (x : Did sh p id s) → OneCore sh (out x).core
    go (Idles n l b g) = done (record s { n = s.n + 1; local = l; console = b }) g refl refl refl k
    go (Finds a x z l g f) = done (after_load s l (load_of a z (part x a z)) s.cache) g refl refl refl k
    go (Reads a x z l g r v) = done (after_load s l (load_of a z (part x a z)) (marked (w a) s.cache)) g refl refl refl
        (marked_words sh (w a) x s v r k)
    go (Buffers a y v n q g i e f) = done (after_store s a q s.cache (put s.spilled (w a) (Some y))) g refl refl refl
        (words-buffered (w a) y q.store v e f (ap (word_of sh.base) q.addr) k)
    go (Frames a y also n q g i f) = done (after_store s a q (stored (w a) y also s.cache) s.spilled) g refl refl refl
        (words-stored (w a) y also q.store (framed-held s (w a) k.cache f.held) f.unspilled f.alone (ap (word_of sh.base) q.addr) k)
    go (Frames_anew a y n q g i e f u) =
        done (after_store s a q (stored (w a) y false (placed sh (line_of (w a)) s.cache)) s.spilled) g refl refl refl
        (words-stored (w a) y false q.store
        (placed-held sh (line_of (w a)) s.cache f) u (λ z. refl) (ap (word_of sh.base) q.addr) (anew (line_of (w a)) e))
    go (Misses a n g i e) = asked (line_of (w a)) (record s { awaited = awaiting (line_of (w a)) }) g refl refl refl k e
    go (Misses_anew a n g i e f) =
        asked (line_of (w a)) (record s { awaited = awaiting (line_of (w a)); cache = placed sh (line_of (w a)) s.cache }) g refl refl
        refl (anew (line_of (w a)) e) (placed-held sh (line_of (w a)) s.cache f)
    go (Room_wanted r i) = waits s (Overflowing None) r h i refl refl refl
    go (Ends_run l e f r i) = waits (after_end s l e) AwaitTid r
        (record {
          words = h.words;
          awaited = h.awaited;
          owing = h.owing;
          owers = h.owers;
          rested = λ q. absurd (let z : rests s.phase ≡ false = rw r in cc);
        }) i refl refl refl
    go (Ends_alone t l e f r i) = committed_one (after_end s l e) refl (λ d. h.owing d (rw r)) i
        (λ b. words-committed b t none_spilled (words_dropped-keeps sh s.spilled s.cache k.cache) (λ w. refl))
        (record { n = refl; loads = refl; stores = refl; console = refl; unread = λ w. refl; unmodified = λ w. refl })
    go (Commits_now t r) = commit_one id t s r h

-- Evictions and messages keep what holds of a core by itself.

-- a line that isn't awaited keeps its frame where another is emptied
evicted-held : (c : Cache) (s y l m : ℕ) → c.at s y ≡ Some l → (m == l) ≡ false → c.held m ≡ true → (evicted s y c).held m ≡ true
unfolding evicted evicted_line
evicted-held c s y l m e n h = rw e (rw n h)

evicted-unread : (c : Cache) (s y v : ℕ) → ((w : ℕ) → c.read w ≡ false) → (evicted s y c).read v ≡ false
unfolding evicted evicted_line
evicted-unread c s y v h = grind nats

evicted-unmodified : (c : Cache) (s y v : ℕ) → ((w : ℕ) → c.modified w ≡ false) → (evicted s y c).modified v ≡ false
unfolding evicted evicted_line
evicted-unmodified c s y v h = grind nats

pub evict_one : (sh : Shape) (x y : ℕ) (s : CoreState) → OneCore sh s → IfSome (core_evict sh x y s) (λ o. OneCore sh o.core)
evict_one sh x y s h = each-evict sh x y s (λ o. OneCore sh o.core) (λ l e q m. record {
  words = words-evicted x y l e (λ z v i. words-evicted_unmarked sh s.cache l v (unmarked l z m) i) h.words;
  awaited = λ b r. let z = h.awaited b r in (z.0, evicted-held s.cache x y l b.line e (another l q r) z.1);
  owing = h.owing;
  owers = h.owers;
  rested = λ r. let z = h.rested r in
      record {
        n = z.n;
        loads = z.loads;
        stores = z.stores;
        console = z.console;
        unread = λ v. evicted-unread s.cache x y v z.unread;
        unmodified = λ v. evicted-unmodified s.cache x y v z.unmodified;
      };
})
  where
    another : (l : ℕ) {a : Option Awaited} → is_awaited a l ≡ false → {b : Awaited} → a ≡ Some b → (b.line == l) ≡ false
    another l q e = grind nats

    unmarked : (l : ℕ) → is_solo s.phase ≡ false → (is_marked s.cache l ≡ false) ⊎ (is_solo s.phase ≡ true) → is_marked s.cache l ≡ false
    unmarked l z a = grind nats

-- a core that doesn't execute awaits no line
idle : (sh : Shape) (s : CoreState) (q : Phase) → s.phase ≡ q → executes q ≡ false → OneCore sh s → (a : Awaited) → s.awaited ≡ Some a → ⊥
idle sh s q e f h a z = let x = h.awaited a z in let y : executes s.phase ≡ false = rw e f in let k = x.0 in cc

-- the same words in another phase
rephased : {sh : Shape} {s r : CoreState} {q : Phase} (go : Phase) → s.phase ≡ q → executes q ≡ false → r.phase ≡ go
    → is_solo go ≡ is_solo q → rests go ≡ false → r.cache ≡ s.cache → r.spilled ≡ s.spilled → r.stores ≡ s.stores → r.awaited ≡ s.awaited
    → ((d : ℕ) → awaits_replies go ≡ false → r.owing d ≡ false) → ((d : ℕ) → sh.dirs ≤ d → r.owing d ≡ false) → OneCore sh s → OneCore sh r
rephased {sh} {s} {r} {q} go e x f y z c p t w o b h = record {
  words = rw (f, y, c, p, t) (subst (λ k. Words sh (is_solo k) s.cache s.spilled s.stores) e h.words);
  awaited = λ a k. absurd (idle sh s q e x h a (sym w ∙ k));
  owing = λ d k. o d (rw f at k);
  owers = b;
  rested = λ k. let n : rests r.phase ≡ false = rw f z in absurd (cc);
}

far_probed : (sh : Shape) (c : Cache) (d : ℕ) → sh.dirs ≤ d → is_probed sh c d ≡ false
unfolding is_probed
far_probed sh c d l = let b : nat_lt d sh.dirs ≡ false = grind nats in rw b

none_probed : (sh : Shape) (c : Cache) (d : ℕ) → any_below (is_probed sh c) sh.dirs ≡ false → is_probed sh c d ≡ false
none_probed sh c d q = elim (cases_lt d sh.dirs) [ inl l ↦ none-below (is_probed sh c) sh.dirs d l q | inr l ↦ far_probed sh c d l ]

replied_far : (s : CoreState) (e d : ℕ) → s.owing d ≡ false → put s.owing e false d ≡ false
replied_far s e d h = grind nats

replied_none : (sh : Shape) (s : CoreState) (e d : ℕ) → all_replied sh (put s.owing e false) ≡ true → OneCore sh s
    → put s.owing e false d ≡ false
replied_none sh s e d q h =
    elim (cases_lt d sh.dirs) [ inl l ↦ all-replied sh (put s.owing e false) d l q | inr l ↦ replied_far s e d (h.owers d l) ]

pub grant_one : (sh : Shape) (u : ℕ) (s : CoreState) → OneCore sh s → OneCore sh (grant sh u s).core
grant_one sh u s h = each-grant sh u s (λ o. OneCore sh o.core) go
  where
    probed : s.phase ≡ AwaitTid → (b : Bool) → any_below (is_probed sh s.cache) sh.dirs ≡ b
        → OneCore sh (record s { owing = is_probed sh s.cache; phase = probing_or_ready b u })
    probed e true q = rephased (Probing u) e refl refl refl refl refl refl refl refl (λ d k. absurd (cc))
        (far_probed sh s.cache) h
    probed e false q = rephased (Ready u) e refl refl refl refl refl refl refl refl (λ d k. none_probed sh s.cache d q)
        (far_probed sh s.cache) h

    go : (x : Granted sh u s) → OneCore sh (granted x).core
    go (Given e) = probed e (any_below (is_probed sh s.cache) sh.dirs) refl
    go (Given_doomed e) = rephased Running e refl refl refl refl refl refl refl refl (λ d k. h.owing d (rw e)) h.owers h
    go (Given_room e) = rephased (Overflowing (Some u)) e refl refl refl refl refl refl refl refl (λ d k. absurd (cc)) (λ d k. grind nats) h
    go (Given_none e) = h

executes-rests : (q : Phase) → executes q ≡ true → rests q ≡ true → ⊥
executes-rests Running a e = cc
executes-rests _ a e = cc

data_one : {sh : Shape} (l : ℕ) {s : CoreState} → OneCore sh s → OneCore sh (record s { cache = cleaned l s.cache })
unfolding cleaned
data_one l h = record {
  words = words-cleaned l h.words;
  awaited = h.awaited;
  owing = h.owing;
  owers = h.owers;
  rested = λ k. let z = h.rested k in
      record { n = z.n; loads = z.loads; stores = z.stores; console = z.console; unread = z.unread; unmodified = z.unmodified };
}

-- an invalidation, and a roll back with it
without_one : {sh : Shape} (l m : ℕ) {s : CoreState} → OneCore sh s → OneCore sh (words_invalidated l m s)
unfolding words_invalidated invalidated
without_one l m {s} h = record {
  words = words-invalidated l m h.words;
  awaited = λ b k. held b s.awaited refl k;
  owing = h.owing;
  owers = h.owers;
  rested = λ k. let z = h.rested k in
      record { n = z.n; loads = z.loads; stores = z.stores; console = z.console; unread = z.unread; unmodified = z.unmodified };
}
  where
    held : (b : Awaited) (a : Option Awaited) → s.awaited ≡ a → staled l a ≡ Some b
        → (executes s.phase ≡ true) × (s.cache.held b.line ≡ true)
    held b None q k = absurd (cc)
    held b (Some a) q k = let i : a.line ≡ b.line = ap (line_of_some a.line) k in let z = h.awaited a q in (z.0, rw i at z.1)
      where
        line_of_some : ℕ → Option Awaited → ℕ
        line_of_some d None = d
        line_of_some d (Some z) = z.line

-- a core that has rolled back into a phase
rolled_one : {sh : Shape} {s r : CoreState} (q : Phase) → OneCore sh s → r.phase ≡ q → awaits_replies q ≡ false
    → r.cache ≡ rolled_back s.cache → ((w : ℕ) → r.spilled w ≡ None) → r.n ≡ 0 → r.loads ≡ [] → r.stores ≡ [] → r.console ≡ []
    → r.owing ≡ (λ d. false) → r.awaited ≡ s.awaited → (executes q ≡ true) ⊎ (executes s.phase ≡ false) → OneCore sh r
unfolding rolled_back
rolled_one {s} {r} q h e a c p n l t o w z x = record {
  words = rw (e, c, t) (words-rolled (is_solo q) r.spilled h.words.cache p);
  awaited = λ b k. let y = h.awaited b (sym z ∙ k) in (rw e (active x y.0), rw c y.1);
  owing = λ d k. rw w;
  owers = λ d k. rw w;
  rested = λ k. record { n = n; loads = l; stores = t; console = o; unread = λ v. rw c; unmodified = λ v. rw c };
}
  where
    active : (executes q ≡ true) ⊎ (executes s.phase ≡ false) → executes s.phase ≡ true → executes q ≡ true
    active a k = grind nats

pub back_one : (sh : Shape) (e : ℕ) (s : CoreState) (m : Msg) → OneCore sh s → IfSome (from_dir sh e s m) (λ o. OneCore sh o.core)
unfolding words_invalidated cleaned invalidated none_spilled
back_one sh e s m h = each-back sh e s (λ m o. OneCore sh o.core) go m
  where
    far : (d : ℕ) → sh.dirs ≤ d → put s.owing e false d ≡ false
    far d k = replied_far s e d (h.owers d k)

    none : all_replied sh (put s.owing e false) ≡ true → (d : ℕ) → put s.owing e false d ≡ false
    none r d = replied_none sh s e d r h

    filled_one : {a : Awaited} {c : Cache} → s.awaited ≡ Some a → Words sh (is_solo s.phase) c s.spilled s.stores
        → OneCore sh (record s { cache = c; awaited = None })
    filled_one {a} q w =
        record {
          words = w;
          awaited = λ b k. absurd (cc);
          owing = h.owing;
          owers = h.owers;
          rested = λ k. absurd (executes-rests s.phase (h.awaited a q).0 k);
        }

    hurt : (l m : ℕ) (q : Phase) (sp : Spilled) → awaits_replies q ≡ false → ((w : ℕ) → sp w ≡ None)
        → (executes q ≡ true) ⊎ (executes s.phase ≡ false) → OneCore sh (rolled l m s q sp)
    hurt l m q sp a p x = rolled_one q (without_one l m h) refl a refl p refl refl refl refl refl refl x

    waiting : (l m : ℕ) → (s.phase ≡ AwaitTid) ⊎ (s.phase ≡ Overflowing None) → OneCore sh (rolled l m s DoomedTid s.spilled)
    waiting l m (inl q) = hurt l m DoomedTid s.spilled refl (h.words.spilled_alone (rw q)) (inr (rw q))
    waiting l m (inr q) = hurt l m DoomedTid s.spilled refl (h.words.spilled_alone (rw q)) (inr (rw q))

    probing_one : (l m t : ℕ) → (s.phase ≡ Probing t) ⊎ (s.phase ≡ Ready t) → OneCore sh (rolled l m s Running s.spilled)
    probing_one l m t (inl q) = hurt l m Running s.spilled refl (h.words.spilled_alone (rw q)) (inl refl)
    probing_one l m t (inr q) = hurt l m Running s.spilled refl (h.words.spilled_alone (rw q)) (inl refl)

    go : (x : Heard sh e s) → OneCore sh (heard x).core
    go (Reply_probing u v q o r) = rephased (Probing u) q refl q refl refl refl refl refl refl (λ d k. absurd (cc)) far h
    go (Last_probing u v q o r) = rephased (Ready u) q refl refl refl refl refl refl refl refl (λ d k. none r d) far h
    go (Reply_room u v q o r) = rephased (Overflowing (Some u)) q refl q refl refl refl refl refl refl (λ d k. absurd (cc)) far h
    go (Last_room u v q o r) = record {
      words = words-alone s.cache (subst (λ k. Words sh (is_solo k) s.cache s.spilled s.stores) q h.words);
      awaited = λ a k. absurd (idle sh s (Overflowing (Some u)) q refl h a k);
      owing = λ d k. none r d;
      owers = far;
      rested = λ k. absurd (cc);
    }
    go (Fills l ws a q i f) = filled_one q (words-filled l ws (rw i at (h.awaited a q).1) h.words)
    go (Fills_none l ws a q i f) = filled_one q h.words
    go (Hands_out l) = data_one l h
    go (Hurt_none l m u n) = without_one l m h
    go (Hurt_running l m u v q) = hurt l m Running s.spilled refl (h.words.spilled_alone (rw q)) (inl refl)
    go (Hurt_waiting l m u v q) = waiting l m q
    go (Hurt_probing l m u t v q) = probing_one l m t q
    go (Hurt_alone l m u t v q) = hurt l m Running none_spilled refl (λ w. refl) (inl refl)
    go _ = h

-- Every event keeps what holds of each core by itself, and so does every run.

-- one core has changed
put_one : {sh : Shape} (w : World) (c : ℕ) {s : CoreState} → KeptCores sh w → OneCore sh s → (j : ℕ)
    → OneCore sh (if j == c then s else w.cores j)
put_one {sh} w c {s} k h j = elim (j == c) as (λ b. OneCore sh (if b then s else w.cores j)) [ true ↦ h | false ↦ k j ]

pub step-cores : {sh : Shape} (p : Program) (w : World) (e : Event) → KeptCores sh w → IfSome (step sh p w e) (λ o. KeptCores sh o.world)
unfolding core_moves core_takes dir_takes dir_asks vendor_gives
step-cores {sh} p w e k = step_cases sh p w e (λ g o. KeptCores sh o.world)
    (λ c o eq l. moved c o (got _ eq (exec_one sh p c (w.cores c) (k c))))
    (λ c x y o eq l. moved c o (got _ eq (evict_one sh x y (w.cores c) (k c))))
    (λ c i t q. put_one w c k (grant_one sh t (w.cores c) (k c)))
    (λ c d i m o eq q. (put_one w c k (got _ eq (back_one sh d (w.cores c) m (k c)))))
    (λ c d i m q. answered c d i (dir_deliver sh (w.dirs d) c m)) (λ c i a q. k)
  where
    moved : (c : ℕ) (o : Out) → OneCore sh o.core → KeptCores sh (core_moves w c o)
    moved c o h = put_one w c k h

    answered : (c d i : ℕ) (a : Answer) → OfAnswer w c d i (KeptCores sh) a
    answered c d i Waits = tt
    answered c d i _ = k

pub start-cores : (sh : Shape) (entries : ℕ → Local) (ram : ℕ → ℕ) → KeptCores sh (start entries ram)
unfolding start core_start empty_cache none_spilled
start-cores sh entries ram c = record {
  words = words-none false none_spilled (empty-keeps sh) (λ w. refl) (λ w. refl) (λ w. refl);
  awaited = λ a q. absurd (cc);
  owing = λ d q. refl;
  owers = λ d q. refl;
  rested = λ q. absurd (cc);
}
