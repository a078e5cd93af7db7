-- The records of the sets so far are there.
use Rattle.std.proofs.Common.{◌≡◌, ◌++◌, map}
use Rattle.std.specs.List.{flat_map}
use Rattle.rules_tcc.specs.Seen.{numbers}
use Rattle.core_node.specs.View.{core_of}
use Rattle.watch_state.specs.Cores.{set_records}
use Rattle.watch_state.specs.Plain.{record_of}
use Rattle.watch_state.proofs.frames.add_ways.Given as goal

abbrev pub invariant-loop-set : goal.invariant-loop-set
invariant-loop-set l =
    map record_of l.records
    ≡ map record_of l.fn.records ++ flat_map (set_records l.id.0 l.ways (core_of l.core).cache) (numbers l.set)
