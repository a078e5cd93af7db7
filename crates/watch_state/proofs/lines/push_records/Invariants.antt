-- What is written and the lines to come are what was there and all lines.
use Rattle.std.proofs.Common.{◌≡◌, ◌++◌, drop, map, string_bytes}
use Rattle.watch_state.specs.Lines.{record_lines}
use Rattle.watch_state.specs.Plain.{record_of}
use Rattle.watch_state.proofs.lines.push_records.Given as goal

abbrev pub invariant-loop-told : goal.invariant-loop-told
invariant-loop-told l =
    string_bytes l.text ++ record_lines (map record_of (drop l.told-index l.records))
    ≡ string_bytes l.fn.text ++ record_lines (map record_of l.records)
