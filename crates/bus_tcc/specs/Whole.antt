-- What always holds of a machine.
use Rattle.std.specs.Prelude.{ℕ, ◌≡◌, ◌<◌, ◌/◌, List, length, Contains, Some}
use Rattle.tcc_base.specs.Settings.{IsAllowed}
use Rattle.tcc_base.specs.declared.access.Commit.{Commit}
use Rattle.rules_bus.specs.State.{BusEvent}
use Rattle.rules_bus.specs.Step.{bus_run}
use Rattle.theorem_bus.specs.Given.{bus_at_start}
use Rattle.bus_tcc.specs.Packets.{AreInOrder, lines_on}
use Rattle.bus_tcc.specs.Machine.{BusMachine, bus_history_of, bus_program_of, bus_settings_of, bus_start_of}

-- some list of events, as many as were taken, leads there from the start
pub record BusReached (m : BusMachine) : Type 0 where
  pub taken : List BusEvent
  pub count : length taken ≡ m.events
  pub reaches : bus_run (bus_settings_of m) (bus_program_of m) (bus_at_start (bus_start_of m)).world taken ≡ Some (bus_history_of m)

-- the TIDs of the commits are below the next one
abbrev pub AreBefore : (next : ℕ) → List Commit → Type 0
AreBefore t cs = (c : Commit) → Contains cs c → c.tid.0 < t

pub record IsBusWhole (m : BusMachine) : Type 0 where
  pub allowed : IsAllowed (bus_settings_of m)
  pub one_home : (bus_settings_of m).dirs ≡ 1
  pub ram : length m.ram ≡ (bus_settings_of m).ram / 4
  pub noted : AreBefore m.next m.commits
  pub packet : AreInOrder (bus_settings_of m) (lines_on m.bus)
  pub reached : BusReached m
