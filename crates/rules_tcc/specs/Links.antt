-- Links: a node that sends lengthens its own, and a message that is consumed is taken out of the link that it came on.
use Rattle.std.specs.Prelude.{ℕ, List, [], ◌∷◌, ◌++◌, Option, Some, None, slice_index_or, slice_set, if◌then◌else◌, ◌&&◌}
use Rattle.rules_maps.specs.Nodes.{Node, Msg, node_eq}
use Rattle.rules_tcc.specs.State.{Link}

-- the message of that number, where it was sent and not consumed
abbrev pub in_flight : (Node → Node → Link) → Node → Node → ℕ → Option Msg
in_flight net src dst k = slice_index_or (net src dst) k None

unfoldable pub sent_all : List Msg → Link
sent_all [] = []
sent_all (m ∷ ms) = Some m ∷ sent_all ms

-- node n sends
abbrev pub sending : (Node → Node → Link) → Node → (Node → List Msg) → Node → Node → Link
sending net n sends src dst = if node_eq src n then net src dst ++ sent_all (sends dst) else net src dst

-- message k from src to dst is consumed
abbrev pub taking : (Node → Node → Link) → Node → Node → ℕ → Node → Node → Link
taking net src dst k s d = if node_eq s src && node_eq d dst then slice_set (net s d) k None else net s d
