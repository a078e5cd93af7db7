-- A machine with the events that it took, and what it has come to by them.
use Rattle.std.specs.Prelude.{◌≡◌, List, map, length, Some}
use Rattle.theorem_riscv.specs.Given.{IsSerial}
use Rattle.rules_riscv.specs.Starting.{world_at_start}
use Rattle.tcc_base.specs.Settings.{IsAllowed}
use Rattle.tcc_msg.specs.Plain.{event_of}
use Rattle.tcc_msg.specs.declared.event.Event.{Event}
use Rattle.rules_tcc.specs.Step.{run}
use Rattle.net_core.specs.Machine.{Machine, history_of, program_of, settings_of, start_of}

pub record Refined : Type 0 where
  pub machine : Machine
  pub taken : List Event

-- the rules lead to the machine's state and commits from its start by just these events
abbrev pub IsRunOf : Machine → List Event → Type 0
IsRunOf m taken = run (settings_of m) (program_of m) (world_at_start (start_of m)) (map event_of taken) ≡ Some (history_of m)

-- so the commits are a serial execution of the plain machine, with what is committed
pub record IsRefined (r : Refined) : Type 0 where
  pub allowed : IsAllowed (settings_of r.machine)
  pub is_run : IsRunOf r.machine r.taken
  pub count : length r.taken ≡ r.machine.events
  pub serial : IsSerial (start_of r.machine) (history_of r.machine)
