-- What the code keeps, in the words of the definitions.
use Rattle.std.specs.Prelude.{ℕ, ◌≡◌, ◌<◌, ◌*◌, List, [], ◌++◌, get_or, length, map}
use Rattle.image_load.specs.Start.{first_ram}
use Rattle.rules_maps.specs.Shape.{Shape, lines}
use Rattle.rules_bus.specs.State.{BusWorld}
use Rattle.bus_tcc.specs.Left.{packet_words}
use Rattle.bus_tcc.specs.Machine.{BusMachine, bus_of, bus_settings_of, bus_start_of, bus_world_of, word_in}
use Rattle.bus_tcc.specs.Packets.{lines_on, packet_line_of, packet_lines}
use Rattle.bus_tcc.specs.declared.bus.Bus.{Bus}
use Rattle.watch_state.specs.Plain.{record_of}
use Rattle.watch_state.specs.Records as plain
use Rattle.watch_state.specs.declared.records.Record.{Record}
use Rattle.bus_state.specs.Parts.{bus_core_records}
use Rattle.bus_changes.specs.Text.{bus_changes_lines}

-- the lines of the packet that is on a bus stand by rising line, each once with all its words
abbrev pub AreLines : Shape → Bus → Type 0
AreLines sh b = map packet_line_of (lines_on b) ≡ packet_lines sh (packet_words (bus_of b))

-- the records of a core of this machine, as it is
abbrev pub core_records_now : BusMachine → (core : ℕ) → List plain.Record
core_records_now m c = bus_core_records (bus_settings_of m) c ((bus_world_of m).cores c)

-- what is kept of a machine: the records of each core, the next TID, who has the bus, and memory
pub record BusParts : Type 0 where
  pub cores : List (List Record)
  pub next : ℕ
  pub bus : Bus
  pub ram : List ℕ

-- there is room for each core and each word
pub record Fits (k : BusParts) (sh : Shape) : Type 0 where
  pub cores : length k.cores ≡ sh.cores
  pub ram : length k.ram ≡ 8 * lines sh

-- it is of this state
pub record IsKept (k : BusParts) (sh : Shape) (w : BusWorld) : Type 0 where
  pub fits : Fits k sh
  pub cores : (c : ℕ) → c < sh.cores → map record_of (get_or k.cores c []) ≡ bus_core_records sh c (w.cores c)
  pub next : k.next ≡ w.next
  pub bus : bus_of k.bus ≡ w.bus
  pub packet : AreLines sh k.bus
  pub ram : (x : ℕ) → x < 8 * lines sh → word_in k.ram x ≡ w.ram x

-- a machine was looked at behind an event of a core: what changed since this state stands behind the text, and what there is now is kept
pub record Looked (new : BusParts) (m : BusMachine) (core : ℕ) (w : BusWorld) (before after : List ℕ) : Type 0 where
  pub told : after ≡ before ++ bus_changes_lines (bus_settings_of m) (first_ram (bus_start_of m)) core w (bus_world_of m)
  pub kept : IsKept new (bus_settings_of m) (bus_world_of m)
