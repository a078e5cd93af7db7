-- The first so many messages have been looked at.
use Rattle.machine_dirs.proofs.MarkedTo.{MarkedTo}
use Rattle.machine_dirs.proofs.marking.remark_link.Given as goal

abbrev pub invariant-loop-i : goal.invariant-loop-i
invariant-loop-i l = MarkedTo l.dir l.src.0 l.fn.dst.0 l.i l.initial.flights l.flights
