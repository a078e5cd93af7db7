-- The records of the sets so far are there, and those of the sets to come are missing.
use Rattle.std.proofs.Common.{◌≡◌, ◌++◌, drop, map}
use Rattle.std.specs.List.{flat_map}
use Rattle.core_node.specs.View.{core_of}
use Rattle.watch_state.specs.Cores.{set_records}
use Rattle.watch_state.specs.Plain.{record_of}
use Rattle.watch_state.proofs.frames.add_sets.Given as goal

abbrev pub invariant-loop-set : goal.invariant-loop-set
invariant-loop-set l =
    map record_of l.records ++ flat_map (set_records l.id.0 l.ways (core_of l.core).cache) (drop l.set-index l.sets)
    ≡ map record_of l.fn.records ++ flat_map (set_records l.id.0 l.ways (core_of l.core).cache) l.sets
