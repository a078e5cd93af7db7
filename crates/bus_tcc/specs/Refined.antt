-- What a machine has come to by its events: the commits are a serial execution of the plain machine, and it isn't stuck.
use Rattle.std.specs.Prelude.{◌≡◌, []}
use Rattle.tcc_base.specs.Settings.{IsAllowed}
use Rattle.rules_bus.specs.Useful.{BusIsDone}
use Rattle.theorem_bus.specs.Given.{BusSerial}
use Rattle.theorem_bus.specs.Laws.{AreNumbered}
use Rattle.bus_tcc.specs.Chosen.{bus_useful_of}
use Rattle.bus_tcc.specs.Machine.{BusMachine, bus_history_of, bus_settings_of, bus_start_of, bus_world_of}

pub record IsBusRefined (m : BusMachine) : Type 0 where
  pub allowed : IsAllowed (bus_settings_of m)
  -- The plain machine, by the commits in the order of their TIDs, gives what is committed, and just these commits.
  pub serial : BusSerial (bus_start_of m) (bus_history_of m)
  -- The TIDs are 1, 2, 3 and so on.
  pub tids : AreNumbered 1 m.commits
  -- Where no event is useful all is done.
  pub goes_on : bus_useful_of m ≡ [] → BusIsDone (bus_settings_of m) (bus_world_of m)
