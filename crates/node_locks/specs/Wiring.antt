-- All nodes of one machine, and the links between them.
use Rattle.std.specs.Prelude.{ℕ, true, ◌≡◌, Bool, List, length, map, slice_get, Option, Some, None, is_some, option_map}
use Rattle.image_load.specs.Contents.{Contents}
use Rattle.tcc_base.specs.Settings.{Settings}
use Rattle.rules_maps.specs.Nodes.{Node}
use Rattle.net_links.specs.Views.{LinkId}
use Rattle.rules_apart.specs.Fitting.{place, node_count}
use Rattle.rules_apart.specs.declared.logs.Logged.{Logged}
use Rattle.apart_node.specs.Linked.{IsLinkedTo}
use Rattle.apart_node.specs.Node.{NodeData, here}
use Rattle.apart_node.specs.Peers.{seat}
use Rattle.apart_node.specs.Ports.{port_to}
use Rattle.node_locks.specs.Places.{nth_node}

pub record NodesData : Type 0 where
  pub code : Contents  -- the program, as it was loaded
  pub nodes : List NodeData  -- in the order of nodes

-- The node of that place, with this program.
pub record IsPlaced (code : Contents) (i : ℕ) (n : NodeData) : Type 0 where
  pub runs : n.member.code ≡ code
  pub node : here n ≡ nth_node code.settings i

abbrev pub are_peers : Settings → Node → Node → Bool
are_peers s a b = is_some (seat s a b)

-- One for each node of the machine, in order, with this program; what the one of two peers sends to the other is what that takes from it.
pub record AreNodes (code : Contents) (nodes : List NodeData) : Type 0 where
  pub count : length nodes ≡ node_count code.settings
  pub placed : (i : ℕ) (n : NodeData) → slice_get nodes i ≡ Some n → IsPlaced code i n
  pub wired : (i j : ℕ) (a b : NodeData) → slice_get nodes i ≡ Some a → slice_get nodes j ≡ Some b
      → are_peers code.settings (here a) (here b) ≡ true → IsLinkedTo a.room b.room

-- the logs, in order
unfoldable pub logs_of : List NodeData → List (List Logged)
logs_of nodes = map (λ n. n.log) nodes

-- ---- the links, by the two nodes between which they go

-- the link on which a node sends to another, and the one on which it is sent to
unfoldable pub link_to : NodeData → (peer : Node) → Option LinkId
link_to n peer = option_map (λ p. p.outlet.link) (port_to n.room peer)

unfoldable pub link_from : NodeData → (peer : Node) → Option LinkId
link_from n peer = option_map (λ p. p.inlet.link) (port_to n.room peer)

-- from the first node to the second
abbrev pub Wiring : Type 0
Wiring = Node → Node → Option LinkId

-- A node with this program, whose links to and from its peers are those of this wiring.
pub record IsOf (code : Contents) (link : Wiring) (n : NodeData) : Type 0 where
  pub runs : n.member.code ≡ code
  pub joined : (peer : Node) → are_peers code.settings (here n) peer ≡ true → is_some (port_to n.room peer) ≡ true
  pub out : (peer : Node) → are_peers code.settings (here n) peer ≡ true → link_to n peer ≡ link (here n) peer
  pub back : (peer : Node) → are_peers code.settings (here n) peer ≡ true → link_from n peer ≡ link peer (here n)

abbrev pub AreOf : Contents → Wiring → List NodeData → Type 0
AreOf code link nodes = (i : ℕ) (n : NodeData) → slice_get nodes i ≡ Some n → IsOf code link n

abbrev pub link_of : Option NodeData → (dst : Node) → Option LinkId
link_of None dst = None
link_of (Some n) dst = link_to n dst

-- the wiring of these nodes
unfoldable pub links_of : NodesData → Wiring
links_of a src dst = link_of (slice_get a.nodes (place a.code.settings src)) dst
