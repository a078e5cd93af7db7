-- What holds of one core by itself between events, of a program whose accesses are to lines in a set: no line is awaited, no word is
-- dirty, its cache is consistent and of those lines, and its attempt is counted.
use Rattle.std.specs.Prelude.{ℕ, ◌+◌, ◌≡◌, Bool, true, false, ◌==◌, ◌&&◌, ◌⊎◌, Option, Some, None, is_some, IfSome}
use Rattle.std.specs.Prelude.{unwrap_or, if◌then◌else◌}
use Rattle.std.proofs.Common.{refl, ap, sym, inl, inr, ◌∙◌}
use Rattle.base_lemmas.proofs.Lemmas.{held_valued}
use Rattle.rules_maps.specs.Cache.{Cache}
use Rattle.rules_maps.specs.CacheChange.{read_cleared}
use Rattle.rules_maps.specs.Shape.{Shape}
use Rattle.rules_maps.specs.Spilled.{spill_line}
use Rattle.rules_maps.specs.Words.{line_of}
use Rattle.rules_maps.proofs.Lemmas.{dirty-evicted, held-evicted, read_cleared-keeps}
use Rattle.rules_program.specs.Program.{Program}
use Rattle.rules_tcc.specs.Attempt.{Out, is_solo}
use Rattle.rules_tcc.specs.CoreEvict.{core_evict}
use Rattle.rules_tcc.specs.CoreExec.{core_exec}
use Rattle.rules_tcc.specs.State.{CoreState, Awaited, Running, AwaitTid, Overflowing}
use Rattle.theorem_attempt.specs.Sound.{AwaitsHeld, SoundCore}
use Rattle.theorem_bounds.specs.Bounds.{AttemptCounted}
use Rattle.rules_tcc.proofs.Lemmas.{each-evict, emptied}
use Rattle.theorem_attempt.proofs.Lemmas.{core_exec-sound, emptied-sound}
use Rattle.theorem_bounds.proofs.Lemmas.{weak}
use Rattle.rules_bus.specs.Exec.{with_line_of, line_at_hand, instruction, gone_alone}
use Rattle.theorem_bus.proofs.OneCore.Did.{LineSet, How, Ran, Closed, Overflowed, NeedIn}
use Rattle.theorem_bus.proofs.OneCore.Filled.{Grown, read-grown}
use Rattle.theorem_bus.proofs.OneCore.Instruction.{if-at, Executes, Once, instructed, read_by, read-in}

pub record Fine (sh : Shape) (M : LineSet) (n : ℕ) (s : CoreState) : Type 0 where
  pub awaited : s.awaited ≡ None
  pub clean : (x : ℕ) → s.cache.dirty x ≡ None
  pub sound : SoundCore sh s
  pub attempt : AttemptCounted n s
  pub frames : ((l : ℕ) → s.cache.held l ≡ true → M l)
  pub spilled : (x : ℕ) → is_some (s.spilled x) ≡ true → M (line_of x)

-- one event later
pub later : (sh : Shape) (M : LineSet) (n : ℕ) (s : CoreState) → Fine sh M n s → Fine sh M (n + 1) s
later sh M n s k = record {
  awaited = k.awaited;
  clean = k.clean;
  sound = k.sound;
  attempt = weak n s.n s.loads s.stores s.console k.attempt;
  frames = k.frames;
  spilled = k.spilled;
}

-- instructions

-- how an instruction leaves the phase
pub data Ways (s t : CoreState) : Type 0 where
  Stays : (phase : t.phase ≡ s.phase) → Ways s t
  Closes : (runs : s.phase ≡ Running) → (phase : t.phase ≡ AwaitTid) → Ways s t
  Overflows : (solo : is_solo s.phase ≡ false) → (phase : t.phase ≡ Overflowing None) → Ways s t

pub record Left (sh : Shape) (M : LineSet) (n : ℕ) (s : CoreState) (o : Out) : Type 0 where
  pub fine : Fine sh M (n + 1) o.core
  pub ways : Ways s o.core
  pub quiet : o.commit ≡ None
  pub saved : o.core.saved ≡ s.saved

ways-of : (s t : CoreState) → How s t → Ways s t
ways-of s t (Ran e a) = Stays e
ways-of s t (Closed r e a) = Closes r e
ways-of s t (Overflowed q e) = Overflows q (ap (λ (t : CoreState). t.phase) e)

once-left : (sh : Shape) (M : LineSet) (n : ℕ) (p : Program) (c : ℕ) (s : CoreState) (o : Out) → NeedIn M sh.base (p.need s.local)
    → Fine sh M n s
    → Once sh M p c s o → Left sh M n s o
once-left sh M n p c s o m k e = record {
  fine = record {
    awaited = e.none;
    clean = λ x. e.executed.did.clean x (k.clean x);
    sound = if-at (core_exec sh p c s) o (λ o. SoundCore sh o.core) e.is (core_exec-sound sh p c s k.sound);
    attempt = e.executed.attempt n k.attempt;
    frames = λ l h. held l (e.executed.did.frames l h);
    spilled = λ x h. spilt x (e.executed.did.spilled x h);
  };
  ways = ways-of s o.core e.executed.how;
  quiet = e.executed.quiet;
  saved = e.executed.did.saved;
}
  where
    held : (l : ℕ) → (s.cache.held l ≡ true) ⊎ (M l) → M l
    held l (inl h) = k.frames l h
    held l (inr h) = h

    spilt : (x : ℕ) → (is_some (s.spilled x) ≡ true) ⊎ M (line_of x) → M (line_of x)
    spilt x (inl h) = k.spilled x h
    spilt x (inr h) = h

-- a core with the line of the word that its instruction reads
pub hand-fine : (sh : Shape) (M : LineSet) (n : ℕ) (p : Program) (ram : ℕ → ℕ) (s : CoreState) → NeedIn M sh.base (p.need s.local)
    → Fine sh M n s → Fine sh M n (line_at_hand sh p ram s)
unfolding line_at_hand
hand-fine sh M n p ram s m k = record {
  awaited = k.awaited;
  clean = λ x. g.dirty x ∙ k.clean x;
  sound = record {
    cache = g.cache k.sound.cache;
    awaits = awaits s.awaited k.awaited;
    alone = k.sound.alone;
    apart = λ v w i j. let a = k.sound.apart v w i j in (g.modified w ∙ a.0, g.dirty w ∙ a.1);
    unmarked = λ i w. let a = k.sound.unmarked i w in (g.read w ∙ a.0, g.modified w ∙ a.1);
  };
  attempt = k.attempt;
  frames = λ l h. held l (g.held l h);
  spilled = k.spilled;
}
  where
    d : Cache
    d = with_line_of sh ram s (read_by sh p s)

    g : Grown sh M ram s.cache d
    g = read-grown sh M ram s (read_by sh p s) (read-in M sh.base (p.need s.local) m)

    awaits : (o : Option Awaited) → o ≡ None → AwaitsHeld d o
    awaits None e = tt
    awaits (Some a) e = absurd (cc)

    held : (l : ℕ) → (s.cache.held l ≡ true) ⊎ (M l) → M l
    held l (inl h) = k.frames l h
    held l (inr h) = h

pub instruction-left : (sh : Shape) (M : LineSet) (n : ℕ) (p : Program) (ram : ℕ → ℕ) (c : ℕ) (s : CoreState)
    → NeedIn M sh.base (p.need s.local)
    → Fine sh M n s → Executes p s → IfSome (instruction sh p ram c s) (Left sh M n s)
unfolding line_at_hand
instruction-left sh M n p ram c s m k x = instructed sh M p ram c s (Left sh M n s) m k.awaited x
    (λ o e.
    let l = once-left sh M n p c (line_at_hand sh p ram s) o m (hand-fine sh M n p ram s m k) e in
    record { fine = l.fine; ways = same o.core l.ways; quiet = l.quiet; saved = l.saved })
  where
    same : (t : CoreState) → Ways (line_at_hand sh p ram s) t → Ways s t
    same t (Stays e) = Stays e
    same t (Closes r e) = Closes r e
    same t (Overflows q e) = Overflows q e

-- Evict

emptied-left : (sh : Shape) (M : LineSet) (n x y l : ℕ) (s : CoreState) → s.cache.at x y ≡ Some l → Fine sh M n s
    → SoundCore sh (emptied sh x y l s).core → Left sh M n s (emptied sh x y l s)
unfolding spill_line
emptied-left sh M n x y l s e k q = record {
  fine = record {
    awaited = k.awaited;
    clean = λ v. dirty-evicted x y s.cache v l e ∙ clean v (l == line_of v);
    sound = q;
    attempt = weak n s.n s.loads s.stores s.console k.attempt;
    frames = λ j h. k.frames j (fewer j (j == l) (sym (held-evicted x y s.cache j l e) ∙ h));
    spilled = λ v h. spilt v (l == line_of v) (s.cache.modified v) refl h;
  };
  ways = Stays refl;
  quiet = refl;
  saved = refl;
}
  where
    clean : (v : ℕ) (b : Bool) → (if b then None else s.cache.dirty v) ≡ None
    clean v true = refl
    clean v false = k.clean v

    fewer : (j : ℕ) (b : Bool) → (if b then false else s.cache.held j) ≡ true → s.cache.held j ≡ true
    fewer j true h = absurd (cc)
    fewer j false h = h

    valid : (v : ℕ) (o : Option ℕ) → s.cache.value v ≡ o → is_some o ≡ true → M (line_of v)
    valid v None r h = absurd (cc)
    valid v (Some z) r h = k.frames (line_of v) (held_valued sh s.cache v z k.sound.cache r)

    spilt : (v : ℕ) (b m : Bool) → s.cache.modified v ≡ m
        → is_some (if b && m then Some (unwrap_or (s.cache.value v) 0) else s.spilled v) ≡ true
        → M (line_of v)
    spilt v true true r h = valid v (s.cache.value v) refl (k.sound.cache.modified v r)
    spilt v true false r h = k.spilled v h
    spilt v false m r h = k.spilled v h

pub evict-left : (sh : Shape) (M : LineSet) (n x y : ℕ) (s : CoreState) → Fine sh M n s → IfSome (core_evict sh x y s) (Left sh M n s)
evict-left sh M n x y s k = each-evict sh x y s (Left sh M n s)
    (λ l e u m. emptied-left sh M n x y l s e k (emptied-sound sh x y l s e u m k.sound))

pub evict-phase : (sh : Shape) (x y : ℕ) (s : CoreState) → IfSome (core_evict sh x y s) (λ t. t.core.phase ≡ s.phase)
evict-phase sh x y s = each-evict sh x y s (λ t. t.core.phase ≡ s.phase) (λ l e u m. refl)

-- the core has the bus
pub alone-fine : (sh : Shape) (M : LineSet) (n t : ℕ) (s : CoreState) → Fine sh M n s → Fine sh M n (gone_alone t s)
unfolding gone_alone read_cleared
alone-fine sh M n t s k = record {
  awaited = k.awaited;
  clean = k.clean;
  sound = record {
    cache = read_cleared-keeps sh s.cache k.sound.cache;
    awaits = awaits s.awaited k.awaited;
    alone = λ e. absurd (cc);
    apart = k.sound.apart;
    unmarked = λ e. absurd (cc);
  };
  attempt = k.attempt;
  frames = k.frames;
  spilled = k.spilled;
}
  where
    awaits : (o : Option Awaited) → o ≡ None → AwaitsHeld (record s.cache { read = λ v. false }) o
    awaits None e = tt
    awaits (Some a) e = absurd (cc)
