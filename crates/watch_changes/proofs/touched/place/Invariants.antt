-- The lines so far come before the one.
use Rattle.std.proofs.Common.{◌≡◌, ◌++◌, ◌-◌, ◌≤◌, drop, length, take}
use Rattle.watch_changes.specs.Plain.{line_numbers, with_line}
use Rattle.watch_changes.proofs.touched.place.Given as goal

abbrev pub invariant-loop-at : goal.invariant-loop-at
invariant-loop-at l =
    (l.at ≤ length l.lines)
    × (line_numbers (take l.at l.lines) ++ with_line l.line.0 (line_numbers (drop l.at l.lines))
    ≡ with_line l.line.0 (line_numbers l.lines))

abbrev pub decreases-loop-at : goal.decreases-loop-at
decreases-loop-at l = length l.lines - l.at
