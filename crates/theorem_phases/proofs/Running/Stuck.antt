-- No state that a run by phases reaches is stuck: of the cores that haven't halted one in the earliest phase goes on.
use Rattle.std.specs.Prelude.{ℕ, zero, suc, ◌≡◌, ◌≢◌, ◌<◌, Bool, true, false, not, ◌&&◌}
use Rattle.std.specs.Prelude.{nat_lt, List, [], ◌∷◌, Option, Some, None, IfSome}
use Rattle.std.proofs.Common.{arith, refl, ◌⊎◌, inl, inr}
use Rattle.std.proofs.lemmas.Bool.Decides.{nat_tests}
use Rattle.image_load.specs.Start.{Start, first_ram}
use Rattle.rv_code.specs.Machine.{program}
use Rattle.base_lemmas.proofs.Lemmas.{any_below-found, any_below-none}
use Rattle.theorem_live.specs.Progress.{DoneWhereNoneUseful, EachGoesOn, spares}
use Rattle.theorem_live.proofs.Lemmas.{no_state_is_stuck, each_core_goes_on, halted-or}
use Rattle.rules_maps.specs.Nodes.{Core, Vendor, Event, Deliver}
use Rattle.rules_tcc.specs.Laws.{IsIn}
use Rattle.rules_tcc.specs.Seen.{IsDone}
use Rattle.rules_tcc.specs.State.{Phase, Halted}
use Rattle.rules_tcc.specs.Step.{History, run}
use Rattle.rules_tcc.specs.Useful.{useful}
use Rattle.rules_tcc.proofs.Lemmas.{useful-holds}
use Rattle.rules_riscv.specs.Starting.{local_at_start, world_at_start, at_start}
use Rattle.theorem_riscv.proofs.Lemmas.{equipped}
use Rattle.theorem_phases.specs.Laws.{PhasedNeverStuck, PhasedPickedEndsDone}
use Rattle.rules_phases.specs.Phased.{has_halted, goes_before, is_late, is_held, phased_from, phased_useful, phased_picked}
use Rattle.rules_phases.specs.Phases.{phase_of}
use Rattle.theorem_phases.proofs.Running.Chosen.{fails-each, picks}
use Rattle.theorem_phases.proofs.Running.Runs.{phased_runs_are_runs}

-- what is held back

-- what core j is that goes before core c
pub record Before (s : Start) (h : History) (c j : ℕ) : Type 0 where
  pub going : (h.world.cores j).phase ≢ Halted
  pub earlier : phase_of s h j < phase_of s h c

going-on : (q : Phase) → has_halted q ≡ false → q ≢ Halted
going-on Halted e f = absurd (cc)
going-on _ e f = absurd (cc)

pub before : (s : Start) (h : History) (c j : ℕ) → goes_before s h c j ≡ true → Before s h c j
before s h c j e = go (has_halted (h.world.cores j).phase) refl (nat_lt (phase_of s h j) (phase_of s h c)) refl e
  where
    go : (y : Bool) → has_halted (h.world.cores j).phase ≡ y → (z : Bool) → nat_lt (phase_of s h j) (phase_of s h c) ≡ z
        → (not y && z) ≡ true → Before s h c j
    go false q true r e = record { going = going-on (h.world.cores j).phase q; earlier = grind (arith, nat_tests) }
    go true q z r e = absurd (cc)
    go false q false r e = absurd (cc)

-- an event that spares core c is held back only where core c is late
held-is-late : (s : Start) (h : History) (c : ℕ) (e : Event) → spares c e ≡ true → is_held s h e ≡ true → is_late s h c ≡ true
unfolding is_held
held-is-late s h c (Deliver (Core j) Vendor k) p x = let same : j ≡ c = grind (arith, nat_tests) in rw same at x
held-is-late s h c _ p x = absurd (cc)

-- where all that is useful is held back

abbrev NoneLeft : Start → History → Type 0
NoneLeft s h = phased_useful s h ≡ []

all-held : (s : Start) (h : History) (e : Event) → NoneLeft s h → IsIn e (useful s.settings (program s) h.world)
    → is_held s h e ≡ true
unfolding phased_useful
all-held s h e z i = go (is_held s h e) (fails-each (λ e. not (is_held s h e)) e (useful s.settings (program s) h.world) z i)
  where
    go : (b : Bool) → not b ≡ false → b ≡ true
    go true q = refl
    go false q = absurd (cc)

-- no core in a phase below n goes on
none-goes : (n : ℕ) (s : Start) (h : History) → EachGoesOn s.settings (program s) h.world → NoneLeft s h → (c : ℕ)
    → c < s.settings.cores
    → phase_of s h c < n → (h.world.cores c).phase ≢ Halted → ⊥
unfolding is_late
none-goes zero s h g z c l b u = omega (arith, b)
none-goes (suc n) s h g z c l b u =
    let on = g c l u in
    let held = all-held s h on.event z ((useful-holds s.settings (program s) h.world on.event).1 on.is_useful) in
    let some = any_below-found (goes_before s h c) s.settings.cores (held-is-late s h c on.event on.spares held) in
    let other = before s h c some.0 (some.2) in
    none-goes n s h g z some.0 (some.1) (omega (arith, b, other.earlier)) other.going

all-halted : (s : Start) (h : History) → EachGoesOn s.settings (program s) h.world → NoneLeft s h
    → (c : ℕ) → c < s.settings.cores → (h.world.cores c).phase ≡ Halted
all-halted s h g z c l = go (halted-or (h.world.cores c).phase)
  where
    go : ((h.world.cores c).phase ≡ Halted) ⊎ ((h.world.cores c).phase ≢ Halted) → (h.world.cores c).phase ≡ Halted
    go (inl e) = e
    go (inr u) = absurd (none-goes (suc (phase_of s h c)) s h g z c l (omega arith) u)

-- where all have halted nothing is held back
none-held : (s : Start) (h : History) → ((c : ℕ) → c < s.settings.cores → (h.world.cores c).phase ≡ Halted) → (e : Event)
    → is_held s h e ≡ false
unfolding is_held is_late
none-held s h a (Deliver (Core c) Vendor k) = any_below-none (goes_before s h c) s.settings.cores (λ j l. at j (a j l))
  where
    at : (j : ℕ) → (h.world.cores j).phase ≡ Halted → goes_before s h c j ≡ false
    at j e = rw e refl
none-held s h a _ = refl

none-in : (es : List Event) → ((e : Event) → IsIn e es → ⊥) → es ≡ []
none-in [] f = refl
none-in (e ∷ es) f = absurd (f e (inl refl))

none-useful : (s : Start) (h : History) → EachGoesOn s.settings (program s) h.world → NoneLeft s h
    → useful s.settings (program s) h.world ≡ []
none-useful s h g z = none-in (useful s.settings (program s) h.world) (λ e i. at e (all-held s h e z i))
  where
    at : (e : Event) → is_held s h e ≡ true → ⊥
    at e x = let y = none-held s h (all-halted s h g z) e in absurd (cc)

-- runs

-- where none is left after a run, it is done
abbrev EndsDone : Start → Option History → Type 0
EndsDone s o = IfSome o (λ h. NoneLeft s h → IsDone s.settings h.world)

pub phased_never_stuck : PhasedNeverStuck
phased_never_stuck s es k = go (phased_from s es (at_start s)) (phased_runs_are_runs s es)
  where
    reached : (h : History) → run s.settings (program s) (world_at_start s) es ≡ Some h → NoneLeft s h → IsDone s.settings h.world
    reached h e z =
        let done : DoneWhereNoneUseful s.settings (program s) h.world =
        rw e at (no_state_is_stuck s.settings (program s) (local_at_start s) (first_ram s) es (equipped s k)) in
        let on : EachGoesOn s.settings (program s) h.world =
        rw e at (each_core_goes_on s.settings (program s) (local_at_start s) (first_ram s) es (equipped s k)) in
        done (none-useful s h on z)

    go : (o : Option History) → IfSome o (λ h. run s.settings (program s) (world_at_start s) es ≡ Some h) → EndsDone s o
    go None e = tt
    go (Some h) e = reached h e

pub phased_picked_ends_done : PhasedPickedEndsDone
phased_picked_ends_done s rs k l =
    go (phased_from s es (at_start s)) (phased_never_stuck s es k) ((picks s rs (at_start s)).ends l)
  where
    es : List Event
    es = phased_picked s rs (at_start s)

    go : (o : Option History) → EndsDone s o → IfSome o (NoneLeft s) → IfSome o (λ h. IsDone s.settings h.world)
    go None a b = tt
    go (Some h) a b = a b
