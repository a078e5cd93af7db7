-- The lines so far are copied.
use Rattle.std.proofs.Common.{◌≡◌, ◌++◌, drop}
use Rattle.bus_changes.proofs.packet.copied_lines.Given as goal

abbrev pub invariant-loop-line : goal.invariant-loop-line
invariant-loop-line l = l.copied ++ drop l.line-index l.lines ≡ l.lines
