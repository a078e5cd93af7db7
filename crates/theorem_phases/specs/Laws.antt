-- What is claimed of runs by phases, from each start with allowed settings.
use Rattle.std.specs.Prelude.{ℕ, ◌≡◌, ◌≢◌, ◌<◌, ◌==◌, Bool, false, List, [], ◌∷◌, ◌++◌, length, take, drop, filter, max, nat_lt}
use Rattle.std.specs.Prelude.{Option, Some, None, IfSome, IsSome}
use Rattle.std.specs.List.Sorted.{IsNonDecreasing}
use Rattle.image_load.specs.Start.{Start}
use Rattle.rv_code.specs.Machine.{program}
use Rattle.tcc_base.specs.Settings.{IsAllowed}
use Rattle.tcc_base.specs.declared.access.Commit.{Commit}
use Rattle.rules_maps.specs.Nodes.{Core, Vendor, Event, Exec, Deliver}
use Rattle.rules_maps.specs.Shape.{Shape}
use Rattle.rules_program.specs.Program.{Program}
use Rattle.rules_tcc.specs.Links.{in_flight}
use Rattle.rules_tcc.specs.Seen.{IsDone}
use Rattle.rules_tcc.specs.State.{World}
use Rattle.rules_tcc.specs.Step.{History, Stepped, step, next_history, run}
use Rattle.rules_riscv.specs.Starting.{world_at_start, at_start, AfterRun}
use Rattle.rules_phases.specs.Phased.{has_halted, phased_from, phased_picked, phased_useful}
use Rattle.rules_phases.specs.Phases.{x27, phase_of, phases_of}

-- P of the state that a run by phases leads to
abbrev pub AfterPhased : Start → List Event → (History → Type 0) → Type 0
AfterPhased s es P = IfSome (phased_from s es (at_start s)) P

-- A run by phases is a run.
abbrev pub PhasedRunsAreRuns : Type 0
PhasedRunsAreRuns =
    (s : Start) (es : List Event) → AfterPhased s es (λ h. run s.settings (program s) (world_at_start s) es ≡ Some h)

-- Along rising TIDs the phases of its commits never fall; each commit has one.
pub record InPhases (s : Start) (h : History) : Type 0 where
  pub count : length (phases_of s h) ≡ length h.commits
  pub rise : IsNonDecreasing (phases_of s h)

abbrev pub PhasesNeverFall : Type 0
PhasesNeverFall = (s : Start) (es : List Event) → IsAllowed s.settings → AfterPhased s es (InPhases s)

-- Where none of its useful events is left that isn't held back, it is done.
abbrev pub PhasedNeverStuck : Type 0
PhasedNeverStuck =
    (s : Start) (es : List Event) → IsAllowed s.settings
    → AfterPhased s es (λ h. phased_useful s h ≡ [] → IsDone s.settings h.world)

-- So a schedule that a chooser picks by phases has an event for each random word, or ends where all is done.
abbrev pub PhasedPickedEndsDone : Type 0
PhasedPickedEndsDone =
    (s : Start) (rs : List ℕ) → IsAllowed s.settings → length (phased_picked s rs (at_start s)) < length rs
    → AfterPhased s (phased_picked s rs (at_start s)) (λ h. IsDone s.settings h.world)

-- a picked schedule is a run by phases
abbrev pub PhasedPickedRuns : Type 0
PhasedPickedRuns = (s : Start) (rs : List ℕ) (h : History) → IsSome (phased_from s (phased_picked s rs h) h)

-- one more phase, so far from the front
abbrev pub put_in : (at phase : ℕ) → List ℕ → List ℕ
put_in at q qs = take at qs ++ q ∷ drop at qs

-- how many commits have a smaller TID
abbrev pub place_of : (tid : ℕ) → List Commit → ℕ
place_of t cs = length (filter (λ c. nat_lt c.tid.0 t) cs)

-- an event that notes no commit leaves all phases as they are; a commit has the phase that its core is in, in its place by its TID, and
-- the core's next transaction begins at the new checkpoint
abbrev pub Grows : Start → (old new : History) → (noted : Option Commit) → Type 0
Grows s h g None = (phases_of s g ≡ phases_of s h) × ((c : ℕ) → c < s.settings.cores → phase_of s g c ≡ phase_of s h c)
Grows s h g (Some x) =
    (phases_of s g ≡ put_in (place_of x.tid.0 h.commits) (phase_of s h x.core.0) (phases_of s h))
    × (phase_of s g x.core.0 ≡ max (phase_of s h x.core.0) (x27 (g.world.cores x.core.0).saved))
    × ((c : ℕ) → c < s.settings.cores → c ≢ x.core.0 → phase_of s g c ≡ phase_of s h c)

abbrev pub noted_by : Option Stepped → Option Commit
noted_by None = None
noted_by (Some o) = o.noted

-- So it is of each event after every run.
abbrev pub PhasesGrow : Type 0
PhasesGrow =
    (s : Start) (es : List Event) (e : Event) → IsAllowed s.settings
    → AfterRun s es (λ h. IfSome (next_history s.settings (program s) h e)
    (λ g. Grows s h g (noted_by (step s.settings (program s) h.world e))))

-- a core has at most one message to the vendor in flight
abbrev pub AsksOnce : World → Type 0
AsksOnce w =
    (c k l : ℕ) → IsSome (in_flight w.net (Core c) Vendor k) → IsSome (in_flight w.net (Core c) Vendor l) → k ≡ l

-- So it is after every run.
abbrev pub OneRequestEach : Type 0
OneRequestEach = (s : Start) (es : List Event) → IsAllowed s.settings → AfterRun s es (λ h. AsksOnce h.world)

-- the event executes an instruction of this core
abbrev pub executes : (core : ℕ) → Event → Bool
executes c (Exec d) = c == d
executes c _ = false

-- the event delivers a message from this core to the vendor
abbrev pub asks : (core : ℕ) → Event → Bool
asks c (Deliver (Core d) Vendor k) = c == d
asks c _ = false

-- An event that notes no commit leaves it as it was who has halted.
abbrev pub HaltsStay : Type 0
HaltsStay =
    (sh : Shape) (p : Program) (w : World) (e : Event) → IfSome (step sh p w e)
    (λ o. o.noted ≡ None → (c : ℕ) → has_halted (o.world.cores c).phase ≡ has_halted (w.cores c).phase)

-- What a core has said to the vendor stays, unless the event executes its instruction or delivers such a message.
abbrev pub RequestsStay : Type 0
RequestsStay =
    (sh : Shape) (p : Program) (w : World) (e : Event) → IfSome (step sh p w e)
    (λ o. (c : ℕ) → executes c e ≡ false → asks c e ≡ false → o.world.net (Core c) Vendor ≡ w.net (Core c) Vendor)
