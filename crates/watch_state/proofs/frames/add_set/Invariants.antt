-- The records of the ways so far are there.
use Rattle.std.proofs.Common.{◌≡◌, ◌++◌, map}
use Rattle.std.specs.List.{flat_map}
use Rattle.rules_tcc.specs.Seen.{numbers}
use Rattle.core_node.specs.View.{core_of}
use Rattle.watch_state.specs.Cores.{way_record}
use Rattle.watch_state.specs.Plain.{record_of}
use Rattle.watch_state.proofs.frames.add_set.Given as goal

abbrev pub invariant-loop-way : goal.invariant-loop-way
invariant-loop-way l =
    map record_of l.records
    ≡ map record_of l.fn.records ++ flat_map (way_record l.id.0 (core_of l.core).cache l.set) (numbers l.way)
