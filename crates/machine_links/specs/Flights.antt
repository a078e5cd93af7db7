-- The messages in flight of a machine: as the links of the rules, with a mark on each, and the list of those that are marked.
use Rattle.std.specs.Prelude.{ℕ, ◌≡◌, Bool, ◌==◌, ◌&&◌, List, [], ◌∷◌, ◌++◌, map, length, slice_index_or}
use Rattle.std.specs.Prelude.{Option, Some, None, if◌then◌else◌}
use Rattle.std.specs.List.{flat_map, count_by, sum_by}
use Rattle.rules_maps.specs.Words.{those}
use Rattle.rules_maps.specs.Nodes.{Node, Core, Dir, Vendor, Event, Deliver, Msg as PlainMsg, node_eq}
use Rattle.rules_tcc.specs.Links.{in_flight}
use Rattle.rules_tcc.specs.State.{Link}
use Rattle.rules_tcc.specs.Seen.{numbers}
use Rattle.machine_links.specs.Lane.{Lane, message, is_marked, is_waiting}
use Rattle.machine_links.specs.Places.{place}
use Rattle.machine_links.specs.Subject.{Index, IsListed, entry_of}
use Rattle.machine_links.specs.declared.subject.Entry.{Entry}

-- one lane for each pair of nodes, by source and then destination
pub record Flights : Type 0 where
  pub cores : ℕ
  pub dirs : ℕ
  pub lanes : List Lane
  pub index : Index  -- messages to directories, by what they are about

-- the lane of a link; nothing where there is no such link
abbrev pub lane_at : List Lane → Option ℕ → Lane
lane_at ls None = []
lane_at ls (Some i) = slice_index_or ls i []

unfoldable pub lane : Flights → Node → Node → Lane
lane f src dst = lane_at f.lanes (place f.cores f.dirs src dst)

-- the links of the rules
unfoldable pub net_of : Flights → Node → Node → Link
net_of f src dst = map message (lane f src dst)

-- the message of that number is in flight and may be delivered
unfoldable pub is_ready : Flights → Node → Node → ℕ → Bool
is_ready f src dst k = is_marked (slice_index_or (lane f src dst) k None)

-- what is in flight to a directory, and about something, is listed
unfoldable pub AllListed : (Node → Node → Link) → Index → Type 0
AllListed net x = (c d k : ℕ) (m : PlainMsg) (e : Entry) → in_flight net (Core c) (Dir d) k ≡ Some m
    → entry_of (Core c) (Dir d) k m ≡ Some e → IsListed x e

-- how many messages are in flight
unfoldable pub flying : Flights → ℕ
flying f = sum_by (count_by is_waiting) f.lanes

-- the marks with that of one message changed
unfoldable pub with_mark : (Node → Node → ℕ → Bool) → Node → Node → ℕ → Bool → Node → Node → ℕ → Bool
with_mark f src dst k b s d j = if node_eq s src && (node_eq d dst && j == k) then b else f s d j

-- all nodes, in their order
unfoldable pub nodes_of : Flights → List Node
nodes_of f = map Core (numbers f.cores) ++ (map Dir (numbers f.dirs) ++ Vendor ∷ [])

-- the deliveries on one link that may happen, by rising number
unfoldable pub ready_on : Flights → Node → Node → List Event
ready_on f src dst = map (Deliver src dst) (those (is_ready f src dst) (length (net_of f src dst)))

-- all deliveries that may happen, by source, destination and number
unfoldable pub ready_list : Flights → List Event
ready_list f = flat_map (λ src. flat_map (ready_on f src) (nodes_of f)) (nodes_of f)
