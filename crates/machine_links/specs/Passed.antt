-- A link on which so many messages were sent, those behind the ones that are known being consumed.
use Rattle.std.specs.Prelude.{ℕ, ◌-◌, ◌&&◌, List, ◌++◌, length, replicate, Option, None, if◌then◌else◌}
use Rattle.rules_maps.specs.Nodes.{Node, node_eq}
use Rattle.rules_tcc.specs.State.{Link}

abbrev pub passed : {A : Type 0} → ℕ → List (Option A) → List (Option A)
passed n l = l ++ replicate (n - length l) None

-- one of the links
unfoldable pub passed_to : (Node → Node → Link) → (src dst : Node) → ℕ → Node → Node → Link
passed_to net src dst n s d = if node_eq s src && node_eq d dst then passed n (net s d) else net s d
