-- What is there and the lines to come are what was there and all lines.
use Rattle.std.proofs.Common.{◌≡◌, ◌++◌, drop}
use Rattle.watch_changes.specs.Plain.{line_numbers}
use Rattle.watch_changes.proofs.touched.push_lines.Given as goal

abbrev pub invariant-loop-line : goal.invariant-loop-line
invariant-loop-line l =
    line_numbers l.found ++ line_numbers (drop l.line-index l.lines) ≡ line_numbers l.fn.found ++ line_numbers l.lines
