-- Nodes that have heard of one another.
use Rattle.std.specs.Prelude.{ℕ, ◌≡◌, ◌+◌, ◌<◌, List, ◌++◌, slice_get, Some}
use Rattle.image_load.specs.Contents.{Contents}
use Rattle.rules_tcc.specs.Local.{Mail}
use Rattle.apart_node.specs.Node.{NodeData, IsNode, got_from, here, sent_to}
use Rattle.node_locks.specs.Wiring.{AreNodes}

-- what the second has taken of the first is a beginning of what that has sent it
abbrev pub HasHeard : (src dst : NodeData) → Type 0
HasHeard a b = (rest : List Mail) × (sent_to a (here b) ≡ got_from b (here a) ++ rest)

abbrev pub HaveMet : NodeData → NodeData → Type 0
HaveMet a b = HasHeard a b × HasHeard b a

-- this node has met each of those
abbrev pub HasMetAll : NodeData → List NodeData → Type 0
HasMetAll a others = (j : ℕ) (b : NodeData) → slice_get others j ≡ Some b → HaveMet a b

-- each of these has met each of those
abbrev pub AllHaveMet : (these those : List NodeData) → Type 0
AllHaveMet these those = (i : ℕ) (a : NodeData) → slice_get these i ≡ Some a → HasMetAll a those

-- each is one by itself
abbrev pub AllAreNodes : List NodeData → Type 0
AllAreNodes nodes = (i : ℕ) (n : NodeData) → slice_get nodes i ≡ Some n → IsNode n

-- the nodes of one machine, of which each core has met each directory and the vendor
pub record HaveAllMet (code : Contents) (nodes : List NodeData) : Type 0 where
  pub are : AreNodes code nodes
  pub each : AllAreNodes nodes
  pub met : (c k : ℕ) (a b : NodeData) → c < code.settings.cores → slice_get nodes c ≡ Some a
      → slice_get nodes (code.settings.cores + k) ≡ Some b
      → HaveMet a b
