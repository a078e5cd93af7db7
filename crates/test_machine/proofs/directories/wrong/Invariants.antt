-- The directory stays the home of the same lines.
use Rattle.std.proofs.Common.{◌≡◌}
use Rattle.test_machine.proofs.directories.wrong.Given as goal

abbrev pub invariant-loop-k : goal.invariant-loop-k
invariant-loop-k l = l.dir.lines.place ≡ l.fn.dir.lines.place
