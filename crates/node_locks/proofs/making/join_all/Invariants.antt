use Rattle.node_locks.specs.Joining.{AreJoinedTo}
use Rattle.node_locks.proofs.making.join_all.Given as goal

abbrev pub invariant-loop-core : goal.invariant-loop-core
invariant-loop-core l = AreJoinedTo l.config l.core 0 l.rooms.items
