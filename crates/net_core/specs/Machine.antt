-- The whole machine as plain data, and the state of the protocol's rules that it stands for.
use Rattle.std.specs.Prelude.{ℕ, List}
use Rattle.image_load.specs.Contents.{started}
use Rattle.image_load.specs.Start.{Start, first_ram}
use Rattle.rv_code.specs.Machine.{program}
use Rattle.tcc_base.specs.Settings.{Settings}
use Rattle.tcc_base.specs.declared.access.Commit.{Commit}
use Rattle.tcc_base.specs.declared.names.NodeId.{NodeId}
use Rattle.rules_maps.specs.Bridge.{node_of}
use Rattle.tcc_msg.specs.Plain.{sends_of}
use Rattle.tcc_msg.specs.declared.msg.Msg.{Msg}
use Rattle.rules_program.specs.Program.{Program}
use Rattle.rules_tcc.specs.Links.{sending}
use Rattle.rules_tcc.specs.State.{World}
use Rattle.rules_tcc.specs.Step.{History}
use Rattle.machine_links.specs.Flights.{Flights, net_of}
use Rattle.machine_dirs.specs.Bank.{DirsData, dirs_of}
use Rattle.machine_cores.specs.Bank.{CoresData, cores_of}

pub record Machine : Type 0 where
  pub cores : CoresData
  pub dirs : DirsData
  pub next : ℕ  -- the vendor's next TID
  pub flights : Flights
  pub sender : NodeId  -- who sent last
  pub unsent : List (NodeId × Msg)  -- what it sent that doesn't stand on its links yet; it is in flight all the same
  pub last : List (NodeId × Msg)  -- what the last event sent, in order; nothing behind a call that failed
  pub commits : List Commit  -- those that are kept
  pub room : ℕ  -- for so many more commits
  pub events : ℕ  -- how many events were taken

-- the memory, code and entries from which it began
abbrev pub start_of : Machine → Start
start_of m = started m.cores.code

abbrev pub settings_of : Machine → Settings
settings_of m = m.cores.code.settings

abbrev pub program_of : Machine → Program
program_of m = program (start_of m)

unfoldable pub world_of : Machine → World
world_of m = record {
  cores = cores_of m.cores;
  dirs = dirs_of (first_ram (start_of m)) m.dirs;
  next = m.next;
  net = sending (net_of m.flights) (node_of m.sender) (sends_of m.unsent);
}

-- the state and the commits so far, but for those that were forgotten
unfoldable pub history_of : Machine → History
history_of m = record { world = world_of m; commits = m.commits }
