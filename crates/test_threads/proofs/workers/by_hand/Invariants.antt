use Rattle.std.proofs.Common.{◌≡◌}
use Rattle.rules_apart.specs.Fitting.{node_count}
use Rattle.test_threads.proofs.workers.by_hand.Given as goal

abbrev pub invariant-loop-turn : goal.invariant-loop-turn
invariant-loop-turn g l = node_count l.nodes.code.settings ≡ l.count
