-- The numbers so far are there.
use Rattle.std.proofs.Common.{◌≡◌, ◌++◌, drop, map}
use Rattle.bus_changes.specs.Memory.{number_of_line}
use Rattle.bus_changes.proofs.memory.numbers_of.Given as goal

abbrev pub invariant-loop-line : goal.invariant-loop-line
invariant-loop-line l = l.all ++ map number_of_line (drop l.line-index l.lines) ≡ map number_of_line l.lines
