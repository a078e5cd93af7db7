-- The numbers so far are there.
use Rattle.std.proofs.Common.{◌≡◌}
use Rattle.rules_tcc.specs.Seen.{numbers}
use Rattle.bus_changes.proofs.memory.all_lines.Given as goal

abbrev pub invariant-loop-line : goal.invariant-loop-line
invariant-loop-line l = l.all ≡ numbers l.line
