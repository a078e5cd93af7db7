use Rattle.std.specs.Prelude.{ℕ, ◌≡◌, ◌<◌, Some, slice_get}
use Rattle.apart_node.specs.Node.{NodeData, IsNode}
use Rattle.node_locks.proofs.closing.look_at.Given as goal

-- the nodes so far are
abbrev pub invariant-loop-i : goal.invariant-loop-i
invariant-loop-i l = (k : ℕ) (n : NodeData) → k < l.i → slice_get l.nodes k ≡ Some n → IsNode n
