-- How many of those so far may be taken.
use Rattle.std.proofs.Common.{◌≡◌, length, map, take}
use Rattle.std.specs.List.{filter}
use Rattle.rules_maps.specs.Bridge.{node_of}
use Rattle.apart_node.specs.Choice.{ready}
use Rattle.apart_node.specs.PortInside.{entry_of}
use Rattle.apart_node.proofs.port.Port.ready_count.Given as goal

abbrev pub invariant-loop-place : goal.invariant-loop-place
invariant-loop-place l =
    l.count ≡ length (filter (ready l.member l.last (node_of l.self-inside.inlet.ends.src))
    (take l.place (map entry_of l.self-inside.pool.messages)))
