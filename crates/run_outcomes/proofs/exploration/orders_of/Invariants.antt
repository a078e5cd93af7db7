use Rattle.std.proofs.Common.{◌≡◌, ◌≤◌, length, map, reverse, drop}
use Rattle.rv_plain.specs.PlainState.{order_of}
use Rattle.run_outcomes.specs.Ways.{orders_from}
use Rattle.run_outcomes.proofs.exploration.orders_of.Given as goal

abbrev pub invariant-loop-k : goal.invariant-loop-k
invariant-loop-k l = (map order_of l.orders ≡ orders_from 1 (reverse (drop l.k l.back))) × (l.k ≤ length l.back)

abbrev pub decreases-loop-k : goal.decreases-loop-k
decreases-loop-k l = l.k
