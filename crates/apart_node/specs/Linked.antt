-- Two nodes that are linked.
use Rattle.std.specs.Prelude.{◌≡◌, Some}
use Rattle.rules_maps.specs.Bridge.{node_of}
use Rattle.apart_node.specs.Ports.{PortData, RoomData, port_to}

-- what the one sends to the other is what the other takes from it
pub record IsLinkedTo (a b : RoomData) : Type 0 where
  pub there : PortData
  pub back : PortData
  pub to : port_to a (node_of b.own) ≡ Some there
  pub from : port_to b (node_of a.own) ≡ Some back
  pub link : back.inlet.link ≡ there.outlet.link
