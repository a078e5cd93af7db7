-- What is written and the lines to come are what was there and all lines.
use Rattle.std.proofs.Common.{◌≡◌, ◌++◌, drop, map, string_bytes}
use Rattle.watch_state.specs.Plain.{record_of}
use Rattle.watch_changes.specs.Changes.{all_gone, change_lines}
use Rattle.watch_changes.proofs.lines.push_all_gone.Given as goal

abbrev pub invariant-loop-gone : goal.invariant-loop-gone
invariant-loop-gone l =
    string_bytes l.text ++ change_lines (all_gone (map record_of (drop l.gone-index l.records)))
    ≡ string_bytes l.fn.text ++ change_lines (all_gone (map record_of l.records))
