-- The messages from the first so many cores have been looked at.
use Rattle.std.proofs.Common.{◌-◌}
use Rattle.machine_dirs.proofs.MarkedFrom.{MarkedFrom}
use Rattle.machine_dirs.proofs.bank.DirBank.mark.Given as goal

abbrev pub invariant-loop-core : goal.invariant-loop-core
invariant-loop-core l = MarkedFrom l.directory l.fn.dir.0 l.core l.initial.flights l.flights

abbrev pub decreases-loop-core : goal.decreases-loop-core
decreases-loop-core l = l.cores - l.core
