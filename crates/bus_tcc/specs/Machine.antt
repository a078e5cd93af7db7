-- The machine with one bus as plain data, and the state of the rules that it stands for.
use Rattle.std.specs.Prelude.{ℕ, Bool, true, false, List, get_or}
use Rattle.image_load.specs.Contents.{Contents, started}
use Rattle.image_load.specs.Start.{Start}
use Rattle.rv_code.specs.Machine.{program}
use Rattle.tcc_base.specs.Settings.{Settings}
use Rattle.tcc_base.specs.declared.access.Commit.{Commit}
use Rattle.rules_maps.specs.Masks.{has}
use Rattle.rules_program.specs.Program.{Program}
use Rattle.core_node.specs.AtHand.{words_in}
use Rattle.core_node.specs.declared.state.Core.{Core}
use Rattle.machine_cores.specs.Bank.{cores_of}
use Rattle.rules_bus.specs.State as rules
use Rattle.rules_bus.specs.State.{BusWorld}
use Rattle.rules_bus.specs.Step.{BusHistory}
use Rattle.bus_tcc.specs.declared.bus.Bus.{Bus}
use Rattle.bus_tcc.specs.declared.bus.Bus.TheVariants.{Free, Alone, Packet}
use Rattle.bus_tcc.specs.declared.event.BusEvent.{BusEvent}
use Rattle.bus_tcc.specs.declared.event.BusEvent.TheVariants.{Exec, Evict, Take}

pub record BusMachine : Type 0 where
  pub code : Contents  -- the program, as it was loaded
  pub cores : List Core
  pub ram : List ℕ
  pub bus : Bus
  pub next : ℕ  -- the TID of the next commit
  pub commits : List Commit
  pub room : ℕ  -- for so many more commits
  pub events : ℕ  -- how many events were taken

-- the memory, code and entries from which it began
abbrev pub bus_start_of : BusMachine → Start
bus_start_of m = started m.code

abbrev pub bus_settings_of : BusMachine → Settings
bus_settings_of m = m.code.settings

abbrev pub bus_program_of : BusMachine → Program
bus_program_of m = program (bus_start_of m)

abbrev pub bus_of : Bus → rules.Bus
bus_of Free = rules.Free
bus_of (Alone c) = rules.Alone c.0
bus_of (Packet p) = rules.Packet (words_in p.lines) (has p.left.bits)

-- a word of memory; there are none but those that it has
abbrev pub word_in : List ℕ → (word : ℕ) → ℕ
word_in ws w = get_or ws w 0

unfoldable pub bus_world_of : BusMachine → BusWorld
bus_world_of m = record {
  cores = cores_of (record { code = m.code; cores = m.cores });
  ram = word_in m.ram;
  next = m.next;
  bus = bus_of m.bus;
}

-- the state and the commits so far
unfoldable pub bus_history_of : BusMachine → BusHistory
bus_history_of m = record { world = bus_world_of m; commits = m.commits }

abbrev pub bus_event_of : BusEvent → rules.BusEvent
bus_event_of (Exec c) = rules.Exec c.0
bus_event_of (Evict c set way) = rules.Evict c.0 set way
bus_event_of (Take c) = rules.Take c.0

abbrev pub is_free : rules.Bus → Bool
is_free rules.Free = true
is_free (rules.Alone c) = false
is_free (rules.Packet words left) = false
