-- What a pool holds, and as a map from names to messages.
use Rattle.std.specs.Prelude.{ℕ, Bool, ◌==◌, ◌&&◌, List, Option, Some, None, if◌then◌else◌}
use Rattle.std.specs.Map.{lookup}
use Rattle.rules_maps.specs.Nodes.{node_eq}
use Rattle.tcc_msg.specs.declared.event.Name.{Name}
use Rattle.rules_maps.specs.Bridge.{node_of}

-- the messages of a pool with their names, each name once, and for how many more there is room
pub record PoolData (M : Type 0) : Type 0 where
  pub messages : List (Name × M)
  pub room : ℕ

-- two names are the same
abbrev pub name_eq : Name → Name → Bool
name_eq a b = node_eq (node_of a.src) (node_of b.src) && (node_eq (node_of a.dst) (node_of b.dst) && a.seq == b.seq)

-- the message of a name
unfoldable pub held : {M : Type 0} → List (Name × M) → Name → Option M
held messages name = lookup (name_eq name) messages

-- the map with one more message, and without one
abbrev pub with_message : {M : Type 0} → (Name → Option M) → Name → M → Name → Option M
with_message f name msg = λ n. if name_eq name n then Some msg else f n

abbrev pub without : {M : Type 0} → (Name → Option M) → Name → Name → Option M
without f name = λ n. if name_eq name n then None else f n
