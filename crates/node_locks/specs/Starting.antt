-- A node that has done nothing.
use Rattle.std.specs.Prelude.{ℕ, ◌≡◌, []}
use Rattle.image_load.specs.Contents.{Contents}
use Rattle.apart_node.specs.Node.{NodeData}
use Rattle.node_locks.specs.Wiring.{IsPlaced}

-- the node of that place, with this program and nothing in its log
pub record IsFresh (code : Contents) (i : ℕ) (n : NodeData) : Type 0 where
  pub placed : IsPlaced code i n
  pub log : n.log ≡ []
  pub settings : n.room.settings ≡ code.settings
  pub own : n.room.own ≡ n.member.node
