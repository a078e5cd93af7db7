-- What an event that was taken changes of what is kept beside a machine, and what it leaves.
use Rattle.std.specs.Prelude.{ℕ, ◌≡◌, ◌<◌, ◌≤◌, List, length, get_or, max, Some, IfSome, slice_get, slice_set}
use Rattle.tcc_base.specs.declared.access.Commit.{Commit}
use Rattle.theorem_phases.specs.Laws.{place_of, put_in}
use Rattle.rules_maps.specs.Nodes.{Event}
use Rattle.rules_phases.specs.Phases.{x27}
use Rattle.net_core.specs.Machine.{Machine, program_of, settings_of, world_of}
use Rattle.net_core.specs.declared.taking.Step.{Step}
use Rattle.net_core.specs.declared.taking.Step.TheVariants.{Moved, Committed}
use Rattle.tcc_phase.specs.Requests.{Counts, HeldBefore, Limits}
use Rattle.tcc_phase.specs.declared.standing.Standing.{Standing}

-- a commit has the phase that its core was in, in its place by its TID, and its core's phase is then that of its checkpoint where this
-- is greater
abbrev pub Notes : Machine → Step → (each own new_each new_own : List ℕ) → Type 0
Notes m Moved each own new_each new_own = (new_each ≡ each) × (new_own ≡ own)
Notes m (Committed t) each own new_each new_own =
    IfSome (slice_get m.commits (place_of t.0 m.commits)) (λ x.
    (new_each ≡ put_in (place_of t.0 m.commits) (get_or own x.core.0 0) each)
    × (new_own ≡ slice_set own x.core.0 (max (get_or own x.core.0 0) (x27 ((world_of m).cores x.core.0).saved))))

-- the commit that is told stands in its place, is by one of n cores, and its place is within the list
abbrev pub IsListed : Machine → Step → (each : List ℕ) → (n : ℕ) → Type 0
IsListed m Moved each n = Unit {0}
IsListed m (Committed t) each n =
    (x : Commit) × (slice_get m.commits (place_of t.0 m.commits) ≡ Some x) × (x.core.0 < n) × (place_of t.0 m.commits ≤ length each)

-- Where no commit was told, the same cores are late as before, and those that are listed waited before the event.
abbrev pub StillHolds : Machine → Event → Step → Standing → Type 0
StillHolds m e (Committed t) l = Unit {0}
StillHolds m e Moved l =
    Limits (settings_of m) (world_of m) l.own.items l.least
    × ((asked : List ℕ) → Counts e l.asked.items asked
    → HeldBefore (settings_of m) (program_of m) (world_of m) l.own.items asked e l.held.items)
