-- The directories so far.
use Rattle.net_core.proofs.Marking.{MarkedBelow}
use Rattle.net_core.proofs.restoring.mark_all.Given as goal

abbrev pub invariant-loop-d : goal.invariant-loop-d
invariant-loop-d l = MarkedBelow l.dirs l.d l.initial.flights l.flights
