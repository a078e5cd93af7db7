-- The parts of a node, and what always holds of them.
use Rattle.std.specs.Prelude.{◌≡◌, length}
use Rattle.apart_member.specs.Own.{own_events}
use Rattle.apart_node.specs.Node.{NodeData, IsNode, last_stamp}
use Rattle.apart_node.specs.declared.node.Node.TheInside.{Inside}

abbrev pub node_of_parts : Inside → NodeData
node_of_parts n = record { member = n.member; log = n.log.items; room = n.room }

pub record IsNodeInside (n : Inside) : Type 0 where
  pub last : n.last ≡ last_stamp n.log.items
  pub node : IsNode (node_of_parts n)
  pub own : n.own ≡ length (own_events n.member)
