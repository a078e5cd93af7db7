use Rattle.std.specs.Prelude.{◌≡◌, ◌+◌, ◌≤◌, reverse, vec_len, vec_capacity}
use Rattle.node_locks.specs.Turns.{entries_in}
use Rattle.node_locks.specs.Wiring.{AreOf, logs_of}
use Rattle.node_locks.proofs.farm.put_down.Given as goal

-- the nodes that are left, with a part and their logs' entries in the spare share
abbrev pub invariant-loop-node : goal.invariant-loop-node
invariant-loop-node g l = record {
  are : AreOf g.W.Setup.code g.W.Setup.link (reverse l.nodes.items);
  parts : l.spare.parts ≡ vec_len l.nodes;
  amount : l.spare.amount ≡ entries_in (logs_of (reverse l.nodes.items));
  count : vec_len l.nodes + vec_len l.desks ≡ vec_len l.fn.nodes;
  room : vec_len l.nodes + vec_len l.desks ≤ vec_capacity l.desks;
}

abbrev pub decreases-loop-node : goal.decreases-loop-node
decreases-loop-node g l = goal.left-loop-node g l
