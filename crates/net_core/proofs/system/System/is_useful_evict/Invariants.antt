-- None of those before is that one.
use Rattle.net_core.proofs.Useful.Evictions.{NotBelow}
use Rattle.net_core.proofs.system.System.is_useful_evict.Given as goal

abbrev pub invariant-loop-k : goal.invariant-loop-k
invariant-loop-k l = NotBelow l.self l.core.0 l.set l.way l.k
