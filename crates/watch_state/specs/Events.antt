-- The events of a part of a machine, in their order.
use Rattle.std.specs.Prelude.{ℕ, List, map, length}
use Rattle.std.specs.List.{flat_map}
use Rattle.rules_maps.specs.Nodes.{Node, Event, Evict, Deliver}
use Rattle.rules_maps.specs.Shape.{Shape}
use Rattle.rules_tcc.specs.Seen.{numbers}
use Rattle.rules_tcc.specs.State.{World}
use Rattle.rules_tcc.specs.Useful.{nodes}

-- the evictions of the ways of a set, and of a core
unfoldable pub set_evicts : Shape → (core set : ℕ) → List Event
set_evicts sh c x = map (λ y. Evict c x y) (numbers sh.ways)

unfoldable pub core_evicts : Shape → (core : ℕ) → List Event
core_evicts sh c = flat_map (set_evicts sh c) (numbers sh.sets)

-- the deliveries of all that was sent on a link, and by a node
unfoldable pub link_delivers : World → (src dst : Node) → List Event
link_delivers w src dst = map (λ k. Deliver src dst k) (numbers (length (w.net src dst)))

unfoldable pub delivers_from : Shape → World → (src : Node) → List Event
delivers_from sh w src = flat_map (link_delivers w src) (nodes sh)
