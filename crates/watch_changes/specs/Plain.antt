-- What the code keeps and finds, in the words of the definitions.
use Rattle.std.specs.Prelude.{ℕ, ◌≡◌, ◌<◌, ◌==◌, nat_lt, true, List, [], ◌∷◌, map, if◌then◌else◌}
use Rattle.std.specs.List.{All}
use Rattle.std.specs.Option.{option_map}
use Rattle.tcc_base.specs.declared.names.LineAddr.{LineAddr}
use Rattle.tcc_base.specs.declared.names.NodeId.{NodeId}
use Rattle.rules_maps.specs.Bridge.{node_of}
use Rattle.rules_maps.specs.Nodes.{Node, Core, Dir, Vendor}
use Rattle.rules_maps.specs.Shape.{Shape, lines}
use Rattle.rules_tcc.specs.Step.{is_node}
use Rattle.image_load.specs.Start.{first_ram}
use Rattle.net_core.specs.Machine.{Machine, settings_of, start_of, world_of}
use Rattle.watch_state.specs.Plain.{record_of}
use Rattle.watch_state.specs.Records as plain_record
use Rattle.watch_state.specs.declared.records.Record.{Record}
use Rattle.watch_changes.specs.Changes as plain
use Rattle.watch_changes.specs.Nodes.{records_at}
use Rattle.watch_changes.specs.Touched.{More, NoMore, Marked, Every, Reach, Part, OfCore, OfDirectory, OfVendor, part_records}
use Rattle.watch_changes.specs.declared.meeting.Key.{Key}
use Rattle.watch_changes.specs.declared.meeting.Meeting.{Meeting}
use Rattle.watch_changes.specs.declared.meeting.Meeting.TheVariants as code
use Rattle.watch_changes.specs.declared.reach.More.{More as CodeMore}
use Rattle.watch_changes.specs.declared.reach.More.TheVariants as code_more
use Rattle.watch_changes.specs.declared.reach.Reach.{Reach as CodeReach}

abbrev pub numbers_of_key : Key → List ℕ
numbers_of_key k = k.kind ∷ k.first ∷ k.second ∷ k.third ∷ []

abbrev pub meeting_of : Meeting → plain.Meeting
meeting_of code.Unchanged = plain.Unchanged
meeting_of code.Left = plain.Left
meeting_of code.Came = plain.Came
meeting_of code.Changed = plain.Changed

-- ---- lines

abbrev pub line_numbers : List LineAddr → List ℕ
line_numbers ls = map (λ l. l.0) ls

-- one more among rising numbers, where it isn't one of them
unfoldable pub with_line : (line : ℕ) → List ℕ → List ℕ
with_line l [] = l ∷ []
with_line l (j ∷ js) = if nat_lt j l then j ∷ with_line l js else if l == j then j ∷ js else l ∷ j ∷ js

-- ---- what an event may change of a core's frames

abbrev pub more_of : CodeMore → More
more_of code_more.NoMore = NoMore
more_of code_more.Marked = Marked
more_of code_more.Every = Every

abbrev pub reach_of : CodeReach → Reach
reach_of r = record { line = option_map (λ l. l.0) r.line; more = more_of r.more }

-- ---- the part of a node's records that an event may change

-- the node, of a core the sets, and of a directory the lines
pub record Listed : Type 0 where
  pub node : NodeId
  pub sets : List ℕ
  pub known : List LineAddr
  pub words : List LineAddr

abbrev pub part_at : Node → (sets known words : List ℕ) → Part
part_at (Core c) sets known words = OfCore c sets
part_at (Dir d) sets known words = OfDirectory d known words
part_at Vendor sets known words = OfVendor

abbrev pub part_of : Listed → Part
part_of p = part_at (node_of p.node) p.sets (line_numbers p.known) (line_numbers p.words)

-- a machine with these settings has the node, the sets and the lines
pub record IsInside (sh : Shape) (p : Listed) : Type 0 where
  pub node : is_node sh (node_of p.node) ≡ true
  pub sets : All (λ x. x < sh.sets) p.sets
  pub known : All (λ l. l.0 < lines sh) p.known
  pub words : All (λ l. l.0 < lines sh) p.words

-- its records, as the machine is
abbrev pub records_of_part : Machine → Listed → List plain_record.Record
records_of_part m p = part_records (settings_of m) (first_ram (start_of m)) (world_of m) (part_of p)

-- with the records as they were
pub record Seen : Type 0 where
  pub part : Listed
  pub records : List Record

-- they are those of this machine
pub record IsSeen (m : Machine) (b : Seen) : Type 0 where
  pub inside : IsInside (settings_of m) b.part
  pub records : map record_of b.records ≡ records_of_part m b.part

-- what changed of it since
abbrev pub changes_since : Seen → Machine → List plain.Change
changes_since b m = plain.changes (map record_of b.records) (records_of_part m b.part)

-- ---- all records of a node

-- of a node of this machine, as it is
abbrev pub records_now : Machine → Node → List plain_record.Record
records_now m n = records_at (settings_of m) (first_ram (start_of m)) (world_of m) n
