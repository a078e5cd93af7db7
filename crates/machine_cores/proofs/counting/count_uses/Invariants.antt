-- The counts of the cores so far.
use Rattle.machine_cores.proofs.Starts.{AreCountedTo}
use Rattle.machine_cores.proofs.counting.count_uses.Given as goal

abbrev pub invariant-loop-c : goal.invariant-loop-c
invariant-loop-c l = AreCountedTo l.fn.code l.fn.cores l.c l.execs l.evicts
