use Rattle.std.specs.Prelude.{◌≡◌, ◌+◌, ◌≤◌, ◌++◌, reverse, vec_len, vec_capacity}
use Rattle.node_locks.specs.Wiring.{logs_of}
use Rattle.node_locks.proofs.closing.take_logs.Given as goal

-- the logs so far, and behind them those of the nodes that are left, from the last one
abbrev pub invariant-loop-node : goal.invariant-loop-node
invariant-loop-node l = record {
  all : l.logs.items ++ logs_of (reverse l.nodes.items) ≡ logs_of l.fn.nodes.items;
  room : vec_len l.nodes + vec_len l.logs ≤ vec_capacity l.logs;
}

abbrev pub decreases-loop-node : goal.decreases-loop-node
decreases-loop-node l = goal.left-loop-node l
