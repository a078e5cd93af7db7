-- What each core may do next, by itself, and the counts of that by core.
use Rattle.std.specs.Prelude.{ℕ, ◌≡◌, ◌≢◌, ◌<◌, Bool, true, false, not, ◌&&◌, ◌||◌, List, [], map, filter, length, get_or, Option, Some}
use Rattle.std.specs.Prelude.{None, is_some, ◌==◌, if◌then◌else◌}
use Rattle.rules_maps.specs.Shape.{Shape}
use Rattle.rules_program.specs.Program.{Program}
use Rattle.rules_tcc.specs.CoreEvict.{core_evict}
use Rattle.rules_tcc.specs.CoreExec.{core_exec}
use Rattle.rules_tcc.specs.Seen.{numbers}
use Rattle.rules_tcc.specs.State.{CoreState, Phase, Running, AwaitTid, Solo}
use Rattle.rules_tcc.specs.Useful.{room}
use Rattle.core_node.specs.AtHand.{goes_alone}
use Rattle.bus_tcc.specs.declared.counts.Counts.{Counts}

-- a core that runs takes a bus that is free, one that is alone has it, and one whose transaction has ended waits for it
abbrev pub may_exec_in : Shape → Program → (free : Bool) → (core : ℕ) → CoreState → Phase → Bool
may_exec_in sh p free c s Running = is_some (core_exec sh p c s) && (free || not (goes_alone (core_exec sh p c s)))
may_exec_in sh p free c s (Solo t) = is_some (core_exec sh p c s)
may_exec_in sh p free c s AwaitTid = free
may_exec_in sh p free c s _ = false

-- a core may execute, where the bus is free or where it isn't
unfoldable pub may_exec : Shape → Program → (free : Bool) → (core : ℕ) → CoreState → Bool
may_exec sh p free c s = may_exec_in sh p free c s s.phase

-- the ways of a set that can be emptied
abbrev pub loose_ways : Shape → CoreState → (set : ℕ) → List ℕ
loose_ways sh s x = filter (λ y. is_some (core_evict sh x y s)) (numbers sh.ways)

abbrev pub ways_in : Shape → CoreState → (set : Option ℕ) → List (ℕ × ℕ)
ways_in sh s None = []
ways_in sh s (Some x) = map (λ y. (x, y)) (loose_ways sh s x)

-- those of the set in which a core waits for room, each with the set
unfoldable pub room_ways : Shape → Program → CoreState → List (ℕ × ℕ)
room_ways sh p s = ways_in sh s (room sh p s)

abbrev pub exec_count : Shape → Program → (free : Bool) → (core : ℕ) → CoreState → ℕ
exec_count sh p free c s = if may_exec sh p free c s then 1 else 0

abbrev pub way_count : Shape → Program → CoreState → ℕ
way_count sh p s = length (room_ways sh p s)

-- there is a place for each core
pub record HavePlaces (sh : Shape) (n : Counts) : Type 0 where
  pub free : length n.free ≡ sh.cores
  pub taken : length n.taken ≡ sh.cores
  pub ways : length n.ways ≡ sh.cores

-- Executions while the bus isn't free are counted, but not for a single core while it is: no other core can take the bus.
abbrev pub counts_taken : Shape → (bus_free : Bool) → Bool
counts_taken sh f = not f || not (sh.cores == 1)

-- the counts of one core
pub record IsCounted (sh : Shape) (p : Program) (bus_free : Bool) (n : Counts) (core : ℕ) (s : CoreState) : Type 0 where
  pub free : get_or n.free core 0 ≡ exec_count sh p true core s
  pub taken : counts_taken sh bus_free ≡ true → get_or n.taken core 0 ≡ exec_count sh p false core s
  pub ways : get_or n.ways core 0 ≡ way_count sh p s

-- the counts by core
pub record AreCounted (sh : Shape) (p : Program) (bus_free : Bool) (cores : ℕ → CoreState) (n : Counts) : Type 0 where
  pub places : HavePlaces sh n
  pub each : (c : ℕ) → c < sh.cores → IsCounted sh p bus_free n c (cores c)

-- the same of all cores but one
pub record AreCountedBut (sh : Shape) (p : Program) (bus_free : Bool) (core : ℕ) (cores : ℕ → CoreState) (n : Counts) : Type 0 where
  pub places : HavePlaces sh n
  pub each : (c : ℕ) → c < sh.cores → c ≢ core → IsCounted sh p bus_free n c (cores c)
