use Rattle.std.proofs.Common.{◌≡◌}
use Rattle.test_threads.proofs.workers.turn_by_hand.Given as goal

abbrev pub invariant-loop-moved : goal.invariant-loop-moved
invariant-loop-moved g l = l.nodes.code ≡ l.fn.nodes.code
