use Rattle.std.specs.Prelude.{ℕ, ◌≡◌, ◌+◌, ◌++◌, map, reverse, Some, slice_get, vec_len, vec_capacity}
use Rattle.std.specs.Arc.{arc_value}
use Rattle.apart_node.specs.Node.{NodeData}
use Rattle.node_locks.specs.Starting.{IsFresh}
use Rattle.node_locks.proofs.making.seat_all.Given as goal

-- the nodes so far are fresh, and their ports with those that are left are all
abbrev pub invariant-loop-ports : goal.invariant-loop-ports
invariant-loop-ports l = record {
  all : map (λ (n : NodeData). n.room.ports) l.nodes.items ++ reverse l.rooms.items ≡ l.fn.rooms.items;
  fresh : (i : ℕ) (n : NodeData) → slice_get l.nodes.items i ≡ Some n → IsFresh (arc_value l.code) i n;
  room : vec_len l.nodes + vec_len l.rooms ≡ vec_capacity l.nodes;
}

abbrev pub decreases-loop-ports : goal.decreases-loop-ports
decreases-loop-ports l = vec_len l.rooms
