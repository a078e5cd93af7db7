use Rattle.std.specs.Prelude.{ℕ, ◌≡◌, ◌<◌, Some, slice_get}
use Rattle.apart_node.specs.Node.{NodeData, here}
use Rattle.node_locks.specs.Places.{nth_node}
use Rattle.node_locks.proofs.places.all_placed.Given as goal

-- the nodes so far stand at their places
abbrev pub invariant-loop-i : goal.invariant-loop-i
invariant-loop-i l = (k : ℕ) (n : NodeData) → k < l.i → slice_get l.nodes k ≡ Some n → here n ≡ nth_node l.config k
