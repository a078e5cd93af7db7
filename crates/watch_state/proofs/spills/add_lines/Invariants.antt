-- The records of the memory's lines so far are there.
use Rattle.std.proofs.Common.{◌≡◌, ◌++◌, map}
use Rattle.std.specs.List.{flat_map}
use Rattle.rules_tcc.specs.Seen.{numbers}
use Rattle.overflow_buf.specs.Kept.{spilled}
use Rattle.watch_state.specs.Cores.{spilled_records}
use Rattle.watch_state.specs.Plain.{record_of}
use Rattle.watch_state.proofs.spills.add_lines.Given as goal

abbrev pub invariant-loop-line : goal.invariant-loop-line
invariant-loop-line l =
    map record_of l.records
    ≡ map record_of l.fn.records ++ flat_map (spilled_records l.config l.core.0 (spilled l.kept)) (numbers l.line)
