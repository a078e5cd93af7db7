-- What is written and the lines to come are what was there and all lines.
use Rattle.std.proofs.Common.{◌≡◌, ◌++◌, drop, map, string_bytes}
use Rattle.watch_state.specs.Plain.{record_of}
use Rattle.watch_changes.specs.Changes.{all_told, change_lines}
use Rattle.watch_changes.proofs.lines.push_all_told.Given as goal

abbrev pub invariant-loop-told : goal.invariant-loop-told
invariant-loop-told l =
    string_bytes l.text ++ change_lines (all_told (map record_of (drop l.told-index l.records)))
    ≡ string_bytes l.fn.text ++ change_lines (all_told (map record_of l.records))
