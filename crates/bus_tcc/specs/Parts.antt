-- The useful events of a machine in three parts, and the counts by which they are found.
use Rattle.std.specs.Prelude.{ℕ, List, [], ◌∷◌, map, filter, if◌then◌else◌}
use Rattle.std.specs.List.{flat_map}
use Rattle.rules_tcc.specs.Seen.{numbers}
use Rattle.rules_bus.specs.State.{BusEvent, Exec, Evict, Take}
use Rattle.bus_tcc.specs.Left.{is_left}
use Rattle.bus_tcc.specs.Machine.{BusMachine, bus_program_of, bus_settings_of, bus_world_of, is_free}
use Rattle.bus_tcc.specs.Uses.{AreCounted, AreCountedBut, may_exec, room_ways}
use Rattle.bus_tcc.specs.declared.counts.Counts.{Counts}

-- these are the counts of the machine's cores
abbrev pub CountedIn : BusMachine → Counts → Type 0
CountedIn m n = AreCounted (bus_settings_of m) (bus_program_of m) (is_free (bus_world_of m).bus) (bus_world_of m).cores n

-- these are the counts of all its cores but one
abbrev pub CountedBut : BusMachine → (core : ℕ) → Counts → Type 0
CountedBut m c n = AreCountedBut (bus_settings_of m) (bus_program_of m) (is_free (bus_world_of m).bus) c (bus_world_of m).cores n

abbrev pub core_named : BusEvent → ℕ
core_named (Exec c) = c
core_named (Evict c x y) = c
core_named (Take c) = c

-- the cores that may execute
unfoldable pub execs_of : BusMachine → List BusEvent
execs_of m =
    flat_map
    (λ c. if may_exec (bus_settings_of m) (bus_program_of m) (is_free (bus_world_of m).bus) c ((bus_world_of m).cores c) then Exec c ∷ []
    else [])
    (numbers (bus_settings_of m).cores)

-- the ways that can be emptied where cores wait for room
unfoldable pub evicts_of : BusMachine → List BusEvent
evicts_of m =
    flat_map (λ c. map (λ q. Evict c q.0 q.1) (room_ways (bus_settings_of m) (bus_program_of m) ((bus_world_of m).cores c)))
    (numbers (bus_settings_of m).cores)

-- the cores that are still to take the packet
unfoldable pub takes_of : BusMachine → List BusEvent
takes_of m = map Take (filter (is_left (bus_world_of m).bus) (numbers (bus_settings_of m).cores))
