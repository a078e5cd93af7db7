-- The cores so far are those that begin.
use Rattle.machine_cores.proofs.Starts.{AreFirst}
use Rattle.machine_cores.proofs.counting.start_cores.Given as goal

abbrev pub invariant-loop-c : goal.invariant-loop-c
invariant-loop-c l = AreFirst l.fn.code l.c l.cores
