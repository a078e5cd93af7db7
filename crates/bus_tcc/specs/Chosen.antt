-- The useful events of a machine.
use Rattle.std.specs.Prelude.{List}
use Rattle.rules_bus.specs.State.{BusEvent}
use Rattle.rules_bus.specs.Useful.{bus_useful}
use Rattle.bus_tcc.specs.Machine.{BusMachine, bus_program_of, bus_settings_of, bus_world_of}

abbrev pub bus_useful_of : BusMachine → List BusEvent
bus_useful_of m = bus_useful (bus_settings_of m) (bus_program_of m) (bus_world_of m)
