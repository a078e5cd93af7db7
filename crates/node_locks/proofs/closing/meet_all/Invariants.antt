use Rattle.std.specs.Prelude.{ℕ, ◌≡◌, ◌<◌, Some, slice_get}
use Rattle.apart_node.specs.Node.{NodeData}
use Rattle.node_locks.specs.Hearing.{HasMetAll}
use Rattle.node_locks.proofs.closing.meet_all.Given as goal

-- these so far have met all those, and all are as they were
abbrev pub invariant-loop-i : goal.invariant-loop-i
invariant-loop-i g l = record {
  these : l.these ≡ l.fn.these;
  those : l.those ≡ l.fn.those;
  met : (k : ℕ) (a : NodeData) → k < l.i → slice_get l.fn.these k ≡ Some a → HasMetAll a l.fn.those;
}
