-- The directory stays the home of the same lines.
use Rattle.std.proofs.Common.{◌≡◌}
use Rattle.test_machine.proofs.directories.all_load.Given as goal

abbrev pub invariant-loop-core : goal.invariant-loop-core
invariant-loop-core l = l.dir.lines.place ≡ l.fn.dir.lines.place
