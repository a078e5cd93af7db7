use Rattle.std.specs.Prelude.{◌≡◌, ◌+◌, ◌≤◌, vec_len, vec_capacity}
use Rattle.node_locks.specs.Turns.{entries_in}
use Rattle.node_locks.specs.Wiring.{AreOf, logs_of}
use Rattle.node_locks.proofs.farm.take_up.Given as goal

-- the nodes so far, with their parts and their logs' entries in the spare share
abbrev pub invariant-loop-desk : goal.invariant-loop-desk
invariant-loop-desk g l = record {
  are : AreOf g.W.Setup.code g.W.Setup.link l.nodes.items;
  parts : l.spare.parts ≡ vec_len l.nodes;
  amount : l.spare.amount ≡ entries_in (logs_of l.nodes.items);
  count : vec_len l.nodes + vec_len l.desks ≡ vec_len l.fn.desks;
  room : vec_len l.nodes + vec_len l.desks ≤ vec_capacity l.nodes;
}

abbrev pub decreases-loop-desk : goal.decreases-loop-desk
decreases-loop-desk g l = goal.left-loop-desk g l
