-- Messages that go to different nodes, in the order of the nodes.
use Rattle.std.specs.Prelude.{ℕ, ◌≡◌, ◌+◌, ◌-◌, ◌≤◌, true, List, [], ◌∷◌}
use Rattle.tcc_base.specs.declared.names.NodeId.{NodeId}
use Rattle.rules_maps.specs.Bridge.{node_of}
use Rattle.rules_maps.specs.Nodes.{Node, Core, Dir, Vendor}
use Rattle.rules_maps.specs.Shape.{Shape}
use Rattle.tcc_msg.specs.Plain.{msg_of}
use Rattle.tcc_msg.specs.declared.msg.Msg.{Msg}
use Rattle.rules_tcc.specs.Step.{is_node}
use Rattle.net_core.specs.Machine.{Machine}
use Rattle.watch.specs.Facts.{Fact, Sent}
use Rattle.watch_machine.specs.Telling.{count_on}

-- the place of a node among all
abbrev pub place_of : Shape → Node → ℕ
place_of sh (Core c) = c
place_of sh (Dir d) = sh.cores + d
place_of sh Vendor = sh.cores + sh.dirs

-- each goes to a node behind that of the one before it, and the first to one from place k on
unfoldable pub Rises : Shape → (k : ℕ) → List (NodeId × Msg) → Type 0
Rises sh k [] = Unit {0}
Rises sh k (x ∷ xs) =
    (is_node sh (node_of x.0) ≡ true) × ((k ≤ place_of sh (node_of x.0)) × Rises sh (place_of sh (node_of x.0) + 1) xs)

-- each is the last of its link
unfoldable pub each_told : Machine → (src : Node) → List (NodeId × Msg) → List Fact
each_told m src [] = []
each_told m src (x ∷ xs) = Sent src (node_of x.0) (count_on m src (node_of x.0) - 1) (msg_of x.1) ∷ each_told m src xs
