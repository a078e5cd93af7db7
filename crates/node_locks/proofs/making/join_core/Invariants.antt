use Rattle.node_locks.specs.Joining.{AreJoinedTo}
use Rattle.node_locks.proofs.making.join_core.Given as goal

abbrev pub invariant-loop-k : goal.invariant-loop-k
invariant-loop-k l = AreJoinedTo l.config l.core l.k l.rooms
