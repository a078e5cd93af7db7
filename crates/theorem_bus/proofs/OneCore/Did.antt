-- What an instruction leaves of its core beside the attempt: values and marks in the cache, frames, spilled words, and the phase.
use Rattle.std.specs.Prelude.{ℕ, ◌+◌, ◌≡◌, Bool, true, false, not, ◌==◌, ◌&&◌, ◌||◌, ◌⊎◌, Option, Some, None, is_some, IfSome}
use Rattle.std.specs.Prelude.{if◌then◌else◌}
use Rattle.std.proofs.Common.{arith, refl, inl, inr}
use Rattle.std.proofs.lemmas.Bool.Decides.{nat_tests}
use Rattle.tcc_base.specs.declared.access.Size.TheVariants.{Byte, Half, Word}
use Rattle.rules_program.specs.Program.{Need, Nothing, Loads, Stores, Changes, Prints, Ends, Halts, Traps, Program}
use Rattle.rules_program.specs.Ram.{word_of}
use Rattle.rules_maps.specs.Words.{line_of}
use Rattle.rules_maps.specs.Shape.{Shape, set_of}
use Rattle.rules_maps.specs.Cache.{Cache, free_way, all_marked}
use Rattle.rules_maps.specs.CacheChange.{marked, stored, placed, placed_at}
use Rattle.rules_maps.specs.Spilled.{holds}
use Rattle.rules_tcc.specs.State.{CoreState, Awaited, Phase, Running, AwaitTid, Overflowing, Solo}
use Rattle.rules_tcc.specs.Attempt.{Out, moves, is_solo, is_running, new_word, finished, one_more_instruction}
use Rattle.rules_tcc.specs.Execute.{request_line, place, overflow, full_set, miss, with_read_mark, load_valid, load_spilled, load}
use Rattle.rules_tcc.specs.Execute.{stored_in_buffer, stored_in_frame}
use Rattle.rules_tcc.specs.Execute.{word_store, marks_read, change_valid, change_spilled, partial_store, end_transaction, execute_need}
use Rattle.rules_tcc.specs.Execute.{execute}
use Rattle.rules_tcc.specs.CoreExec.{unless_awaiting, exec_in_phase, core_exec}
use Rattle.rules_tcc.specs.Sends.{Sends, nothing, flush_line}
use Rattle.theorem_bounds.specs.Bounds.{AttemptCounted}
use Rattle.theorem_bounds.proofs.Lemmas.{finishes, marked_read, weak}
use Rattle.rules_bus.specs.Exec.{word_read}

-- a set of lines
abbrev pub LineSet : Type 1
LineSet = ℕ → Type 0

-- from one state of a core to another: no word but a modified one gets another value or loses its mark, no word becomes dirty, and new
-- frames and newly spilled words are of lines in a set
pub record Did (M : LineSet) (s t : CoreState) : Type 0 where
  pub stays : (v : ℕ) → t.cache.modified v ≡ false → s.cache.modified v ≡ false
  pub value : (v : ℕ) → t.cache.modified v ≡ false → t.cache.value v ≡ s.cache.value v
  pub clean : (v : ℕ) → s.cache.dirty v ≡ None → t.cache.dirty v ≡ None
  pub frames : (l : ℕ) → t.cache.held l ≡ true → (s.cache.held l ≡ true) ⊎ (M l)
  pub spilled : (v : ℕ) → is_some (t.spilled v) ≡ true → (is_some (s.spilled v) ≡ true) ⊎ M (line_of v)
  pub saved : t.saved ≡ s.saved

pub did-nothing : (M : LineSet) (s : CoreState) → Did M s s
did-nothing M s = record {
  stays = λ v e. e;
  value = λ v e. refl;
  clean = λ v e. e;
  frames = λ l e. inl e;
  spilled = λ v e. inl e;
  saved = refl;
}

-- how the instruction went
pub data How (s t : CoreState) : Type 0 where
  Ran : (phase : t.phase ≡ s.phase) → (awaited : t.awaited ≡ s.awaited) → How s t
  Closed : (runs : s.phase ≡ Running) → (phase : t.phase ≡ AwaitTid) → (awaited : t.awaited ≡ s.awaited) → How s t
  Overflowed : (solo : is_solo s.phase ≡ false) → (is : t ≡ record s { phase = Overflowing None }) → How s t

pub record Executed (M : LineSet) (s : CoreState) (o : Out) : Type 0 where
  pub did : Did M s o.core
  pub how : How s o.core
  pub quiet : o.commit ≡ None
  pub attempt : (n : ℕ) → AttemptCounted n s → AttemptCounted (n + 1) o.core

-- the lines that an instruction accesses are in a set
abbrev pub NeedIn : (M : LineSet) → (base : ℕ) → Need → Type 0
NeedIn M base (Loads addr size) = M (line_of (word_of base addr))
NeedIn M base (Stores addr size value) = M (line_of (word_of base addr))
NeedIn M base (Changes addr changed) = M (line_of (word_of base addr))
NeedIn M base _ = Unit {0}

-- the line has a frame or may have one
abbrev pub has_way : Shape → (line : ℕ) → Cache → Bool
has_way sh l c = c.held l || is_some (free_way sh c (set_of sh l))

-- the line of a word that is read isn't asked for: the word is spilled or valid, or its line can't have a frame
abbrev pub AtHand : Shape → CoreState → (read : Option ℕ) → Type 0
AtHand sh s None = Unit {0}
AtHand sh s (Some w) = (is_some (s.spilled w) || (is_some (s.cache.value w) || not (has_way sh (line_of w) s.cache))) ≡ true

-- an instruction's end

pub finished-did : (M : LineSet) (p : Program) (need : Need) (x : ℕ) (s t : CoreState) → Did M s t → Did M s (finished p need x t)
unfolding finished one_more_instruction
finished-did M p Nothing x s t d =
    record { stays = d.stays; value = d.value; clean = d.clean; frames = d.frames; spilled = d.spilled; saved = d.saved }
finished-did M p _ x s t d =
    record { stays = d.stays; value = d.value; clean = d.clean; frames = d.frames; spilled = d.spilled; saved = d.saved }

finished-how : (p : Program) (need : Need) (x : ℕ) (s t : CoreState) → t.phase ≡ s.phase → t.awaited ≡ s.awaited
    → How s (finished p need x t)
unfolding finished one_more_instruction
finished-how p Nothing x s t e a = Ran e a
finished-how p _ x s t e a = Ran e a

ends : (M : LineSet) (p : Program) (need : Need) (x : ℕ) (s t : CoreState) (sends : Sends) → Did M s t → t.phase ≡ s.phase
    → t.awaited ≡ s.awaited → ((n : ℕ) → AttemptCounted n s → AttemptCounted n t)
    → Executed M s (moves (finished p need x t) sends)
ends M p need x s t sends d e a g = record {
  did = finished-did M p need x s t d;
  how = finished-how p need x s t e a;
  quiet = refl;
  attempt = λ n k. finishes n p need x t (g n k);
}

-- what changes in a core before that

used-did : (M : LineSet) (w : ℕ) (s : CoreState) → Did M s (with_read_mark w s)
unfolding with_read_mark marked
used-did M w s = go (is_running s.phase)
  where
    go : (b : Bool) → Did M s (if b then record s { cache = marked w s.cache } else s)
    go true = record {
      stays = λ v e. e;
      value = λ v e. refl;
      clean = λ v e. e;
      frames = λ l e. inl e;
      spilled = λ v e. inl e;
      saved = refl;
    }
    go false = did-nothing M s

used-phase : (w : ℕ) (s : CoreState) → ((with_read_mark w s).phase ≡ s.phase) × ((with_read_mark w s).awaited ≡ s.awaited)
unfolding with_read_mark
used-phase w s = go (is_running s.phase)
  where
    go : (b : Bool) → ((if b then record s { cache = marked w s.cache } else s).phase ≡ s.phase)
        × ((if b then record s { cache = marked w s.cache } else s).awaited ≡ s.awaited)
    go true = (refl, refl)
    go false = (refl, refl)

buffered-did : (M : LineSet) (w x : ℕ) (s : CoreState) → M (line_of w) → Did M s (stored_in_buffer w x s)
unfolding stored_in_buffer
buffered-did M w x s m = record {
  stays = λ v e. e;
  value = λ v e. refl;
  clean = λ v e. e;
  frames = λ l e. inl e;
  spilled = λ v e. go v (v == w) refl e;
  saved = refl;
}
  where
    go : (v : ℕ) (b : Bool) → (v == w) ≡ b → is_some (if b then Some x else s.spilled v) ≡ true
        → (is_some (s.spilled v) ≡ true) ⊎ M (line_of v)
    go v true q e = let i : v ≡ w = grind (arith, nat_tests) in inr (rw i m)
    go v false q e = inl e

framed-did : (M : LineSet) (w x : ℕ) (also : Bool) (s t : CoreState) → Did M s t → Did M s (stored_in_frame w x also t)
unfolding stored_in_frame stored
framed-did M w x also s t d = record {
  stays = λ v e. d.stays v (other v (v == w) e);
  value = λ v e. same v (v == w) e (d.value v);
  clean = λ v e. wiped v (line_of w == line_of v) (d.clean v e);
  frames = d.frames;
  spilled = d.spilled;
  saved = d.saved;
}
  where
    other : (v : ℕ) (b : Bool) → (if b then true else t.cache.modified v) ≡ false → t.cache.modified v ≡ false
    other v true e = absurd (cc)
    other v false e = e

    same : (v : ℕ) (b : Bool) → (if b then true else t.cache.modified v) ≡ false
        → (t.cache.modified v ≡ false → t.cache.value v ≡ s.cache.value v)
        → (if b then Some x else t.cache.value v) ≡ s.cache.value v
    same v true e f = absurd (cc)
    same v false e f = f e

    wiped : (v : ℕ) (b : Bool) → t.cache.dirty v ≡ None → (if b then None else t.cache.dirty v) ≡ None
    wiped v true e = refl
    wiped v false e = e

place-did : (sh : Shape) (M : LineSet) (l : ℕ) (s : CoreState) → M l → Did M s (place sh l s)
unfolding place placed placed_at
place-did sh M l s m = go (free_way sh s.cache (set_of sh l))
  where
    at : (k : ℕ) (b : Bool) → (k == l) ≡ b → (if b then true else s.cache.held k) ≡ true → (s.cache.held k ≡ true) ⊎ (M k)
    at k true q e = let i : k ≡ l = grind (arith, nat_tests) in inr (rw i m)
    at k false q e = inl e

    go : (o : Option ℕ) → Did M s (record s { cache = placed_at o (set_of sh l) l s.cache })
    go None = record {
      stays = λ v e. e;
      value = λ v e. refl;
      clean = λ v e. e;
      frames = λ k e. inl e;
      spilled = λ v e. inl e;
      saved = refl;
    }
    go (Some y) = record {
      stays = λ v e. e;
      value = λ v e. refl;
      clean = λ v e. e;
      frames = λ k e. at k (k == l) refl e;
      spilled = λ v e. inl e;
      saved = refl;
    }

-- asking for the bus

full : (sh : Shape) (M : LineSet) (l : ℕ) (s : CoreState) → IfSome (full_set sh l s) (Executed M s)
unfolding full_set overflow
full sh M l s = go (is_solo s.phase) refl (not (all_marked sh s.cache (set_of sh l)))
  where
    go : (b : Bool) → is_solo s.phase ≡ b → (c : Bool) → IfSome (if b || c then None else Some (overflow s)) (Executed M s)
    go true e c = tt
    go false e true = tt
    go false e false = record {
      did = record {
        stays = λ v e. e;
        value = λ v e. refl;
        clean = λ v e. e;
        frames = λ l e. inl e;
        spilled = λ v e. inl e;
        saved = refl;
      };
      how = Overflowed e refl;
      quiet = refl;
      attempt = λ n k. weak n s.n s.loads s.stores s.console k;
    }

-- a line that isn't asked for
no-way : (spilled valid : Option ℕ) (b : Bool) → spilled ≡ None → valid ≡ None → (is_some spilled || (is_some valid || not b)) ≡ true
    → b ≡ false
no-way (Some x) v b e f h = absurd (cc)
no-way None (Some y) b e f h = absurd (cc)
no-way None None true e f h = absurd (cc)
no-way None None false e f h = refl

misses : (sh : Shape) (M : LineSet) (w : ℕ) (s : CoreState) → s.spilled w ≡ None → s.cache.value w ≡ None → AtHand sh s (Some w)
    → IfSome (miss sh (line_of w) s) (Executed M s)
unfolding miss
misses sh M w s p n h = go (s.cache.held (line_of w)) (is_some (free_way sh s.cache (set_of sh (line_of w))))
    (no-way (s.spilled w) (s.cache.value w) _ p n h)
  where
    go : (a b : Bool) → (a || b) ≡ false → IfSome (
        if a then Some (request_line sh (line_of w) s)
        else (if b then Some (request_line sh (line_of w) (place sh (line_of w) s)) else full_set sh (line_of w) s)) (Executed M s)
    go true b e = absurd (cc)
    go false true e = absurd (cc)
    go false false e = full sh M (line_of w) s

-- by what the instruction needs

loads : (sh : Shape) (M : LineSet) (p : Program) (need : Need) (w : ℕ) (s : CoreState) → AtHand sh s (Some w)
    → IfSome (load sh p need w s) (Executed M s)
unfolding load
loads sh M p need w s h = go (s.spilled w) refl
  where
    valid : s.spilled w ≡ None → (o : Option ℕ) → s.cache.value w ≡ o → IfSome (load_valid sh p need w s o) (Executed M s)
    valid f (Some x) e =
        let q = used-phase w s in ends M p need x s (with_read_mark w s) nothing (used-did M w s) q.0 q.1 (λ n k. marked_read n w s k)
    valid f None e = misses sh M w s f e h

    go : (o : Option ℕ) → s.spilled w ≡ o → IfSome (load_spilled sh p need w s o) (Executed M s)
    go (Some x) f = ends M p need x s s nothing (did-nothing M s) refl refl (λ n k. k)
    go None f = valid f (s.cache.value w) refl

buffers : (sh : Shape) (M : LineSet) (p : Program) (need : Need) (w x y : ℕ) (s : CoreState) → M (line_of w)
    → Executed M s (moves (finished p need y (stored_in_buffer w x s)) nothing)
unfolding stored_in_buffer
buffers sh M p need w x y s m = ends M p need y s (stored_in_buffer w x s) nothing (buffered-did M w x s m) refl refl (λ n k. k)

frames : (sh : Shape) (M : LineSet) (p : Program) (need : Need) (w x y : ℕ) (also : Bool) (s : CoreState) (c : Cache) (sends : Sends)
    → Did M s (record s { cache = c }) →
    Executed M s (moves (finished p need y (stored_in_frame w x also (record s { cache = c }))) sends)
unfolding stored_in_frame
frames sh M p need w x y also s c sends d =
    let t = record s { cache = c } in
    ends M p need y s (stored_in_frame w x also t) sends (framed-did M w x also s t d) refl refl (λ n k. k)

partly : (sh : Shape) (M : LineSet) (p : Program) (need : Need) (w : ℕ) (s : CoreState) → M (line_of w) → AtHand sh s (Some w)
    → IfSome (partial_store sh p need w s) (Executed M s)
unfolding partial_store
partly sh M p need w s m h = go (s.spilled w) refl
  where
    one : (x : ℕ) (b : Bool) → IfSome (
        if b then Some (moves (finished p need x (stored_in_buffer w (new_word need x) s)) nothing)
        else Some (moves (finished p need x (stored_in_frame w (new_word need x) (marks_read w s) s)) (flush_line sh s.cache (line_of w))))
        (Executed M s)
    one x true = buffers sh M p need w (new_word need x) x s m
    one x false = frames sh M p need w (new_word need x) x (marks_read w s) s s.cache (flush_line sh s.cache (line_of w)) (did-nothing M s)

    valid : s.spilled w ≡ None → (o : Option ℕ) → s.cache.value w ≡ o → IfSome (change_valid sh p need w s o) (Executed M s)
    valid f None e = misses sh M w s f e h
    valid f (Some x) e = one x (holds s.spilled (line_of w))

    go : (o : Option ℕ) → s.spilled w ≡ o → IfSome (change_spilled sh p need w s o) (Executed M s)
    go (Some x) f = buffers sh M p need w (new_word need x) x s m
    go None f = valid f (s.cache.value w) refl

wholly : (sh : Shape) (M : LineSet) (p : Program) (need : Need) (w x : ℕ) (s : CoreState) → M (line_of w)
    → IfSome (word_store sh p need w x s) (Executed M s)
unfolding word_store place
wholly sh M p need w x s m = go (holds s.spilled (line_of w)) (s.cache.held (line_of w))
    (is_some (free_way sh s.cache (set_of sh (line_of w))))
  where
    go : (a b d : Bool) → IfSome (
        if a then Some (moves (finished p need x (stored_in_buffer w x s)) nothing)
        else (if b then Some (moves (finished p need x (stored_in_frame w x false s)) (flush_line sh s.cache (line_of w)))
        else (if d then Some (moves (finished p need x (stored_in_frame w x false (place sh (line_of w) s))) nothing)
        else full_set sh (line_of w) s))) (Executed M s)
    go true b d = buffers sh M p need w x x s m
    go false true d = frames sh M p need w x x false s s.cache (flush_line sh s.cache (line_of w)) (did-nothing M s)
    go false false true = frames sh M p need w x x false s (placed sh (line_of w) s.cache) nothing (place-did sh M (line_of w) s m)
    go false false false = full sh M (line_of w) s

-- the instruction doesn't end the transaction
abbrev pub goes : Need → Bool
goes Ends = false
goes (Halts code) = false
goes (Traps code) = false
goes _ = true

pub finished-awaits : (p : Program) (need : Need) (x : ℕ) (s : CoreState) → (finished p need x s).awaited ≡ s.awaited
unfolding finished one_more_instruction
finished-awaits p Nothing x s = refl
finished-awaits p _ x s = refl

closes : (sh : Shape) (M : LineSet) (p : Program) (id : ℕ) (need : Need) (s : CoreState) (q : Phase) → s.phase ≡ q → q ≡ Running
    → Executed M s (end_transaction sh id q (finished p need 0 s))
closes sh M p id need s Running e r =
    let d = finished-did M p need 0 s s (did-nothing M s) in
    record {
      did = record { stays = d.stays; value = d.value; clean = d.clean; frames = d.frames; spilled = d.spilled; saved = d.saved };
      how = Closed e refl (finished-awaits p need 0 s);
      quiet = refl;
      attempt = λ n k. finishes n p need 0 s k;
    }
closes sh M p id need s q e r = absurd (cc)

needs : (sh : Shape) (M : LineSet) (p : Program) (id : ℕ) (s : CoreState) (need : Need) → NeedIn M sh.base need
    → AtHand sh s (word_read sh.base need) → (s.phase ≡ Running) ⊎ (goes need ≡ true) → IfSome (execute_need sh p id s need) (Executed M s)
needs sh M p id s Nothing m h g = ends M p Nothing 0 s s nothing (did-nothing M s) refl refl (λ n k. k)
needs sh M p id s (Prints byte) m h g = ends M p (Prints byte) 0 s s nothing (did-nothing M s) refl refl (λ n k. k)
needs sh M p id s (Loads addr size) m h g = loads sh M p (Loads addr size) (word_of sh.base addr) s h
needs sh M p id s (Stores addr Word x) m h g = wholly sh M p (Stores addr Word x) (word_of sh.base addr) x s m
needs sh M p id s (Stores addr Half x) m h g = partly sh M p (Stores addr Half x) (word_of sh.base addr) s m h
needs sh M p id s (Stores addr Byte x) m h g = partly sh M p (Stores addr Byte x) (word_of sh.base addr) s m h
needs sh M p id s (Changes addr f) m h g = partly sh M p (Changes addr f) (word_of sh.base addr) s m h
needs sh M p id s Ends m h (inl e) = closes sh M p id Ends s s.phase refl e
needs sh M p id s (Halts code) m h (inl e) = closes sh M p id (Halts code) s s.phase refl e
needs sh M p id s (Traps code) m h (inl e) = closes sh M p id (Traps code) s s.phase refl e
needs sh M p id s need m h (inr e) = absurd (cc)

-- an instruction of a core that runs, or of one that is alone and doesn't end its transaction
pub exec-executed : (sh : Shape) (M : LineSet) (p : Program) (id : ℕ) (s : CoreState) → NeedIn M sh.base (p.need s.local)
    → AtHand sh s (word_read sh.base (p.need s.local)) → s.awaited ≡ None
    → (s.phase ≡ Running) ⊎ ((is_solo s.phase && goes (p.need s.local)) ≡ true) → IfSome (core_exec sh p id s) (Executed M s)
unfolding core_exec execute
exec-executed sh M p id s m h a g = go s.phase refl g
  where
    awaiting : (o : Option Awaited) → o ≡ None → (s.phase ≡ Running) ⊎ (goes (p.need s.local) ≡ true)
        → IfSome (unless_awaiting sh p id s o) (Executed M s)
    awaiting None e g = needs sh M p id s (p.need s.local) m h g
    awaiting (Some x) e g = absurd (cc)

    go : (q : Phase) → s.phase ≡ q → (q ≡ Running) ⊎ ((is_solo q && goes (p.need s.local)) ≡ true)
        → IfSome (exec_in_phase sh p id s q) (Executed M s)
    go Running e g = awaiting s.awaited a (inl e)
    go (Solo t) e (inl h) = absurd (cc)
    go (Solo t) e (inr h) = awaiting s.awaited a (inr h)
    go q e (inl h) = absurd (cc)
    go q e (inr h) = absurd (cc)
