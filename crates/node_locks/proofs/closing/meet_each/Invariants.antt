use Rattle.std.specs.Prelude.{ℕ, ◌≡◌, ◌<◌, Some, slice_get}
use Rattle.apart_node.specs.Node.{NodeData}
use Rattle.node_locks.specs.Hearing.{HaveMet}
use Rattle.node_locks.proofs.closing.meet_each.Given as goal

-- the node has met the others so far, and all are as they were
abbrev pub invariant-loop-j : goal.invariant-loop-j
invariant-loop-j g l = record {
  node : l.node ≡ l.fn.node;
  others : l.others ≡ l.fn.others;
  met : (k : ℕ) (b : NodeData) → k < l.j → slice_get l.fn.others k ≡ Some b → HaveMet l.fn.node b;
}
