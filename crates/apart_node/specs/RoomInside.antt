-- The parts of a node's mailroom, and what always holds of them.
use Rattle.std.specs.Prelude.{◌≤◌, length, drop}
use Rattle.apart_node.specs.Ports.{RoomData, IsRoom}
use Rattle.apart_node.specs.Tally.{IsTallied}
use Rattle.apart_node.specs.declared.room.Mailroom.TheInside.{Inside}

abbrev pub room_of : Inside → RoomData
room_of r = record { settings = r.config; own = r.own; ports = r.ports.items; unsent = drop r.placed r.out.list.items }

pub record IsRoomInside (r : Inside) : Type 0 where
  pub placed : r.placed ≤ length r.out.list.items
  pub room : IsRoom (room_of r)
  pub tally : IsTallied r.ports.items r.tally
