-- What is written of an event that is enabled.
use Rattle.std.proofs.Common.{ℕ, List}
use Rattle.rules_bus.specs.State.{BusEvent}
use Rattle.bus_tcc.specs.Machine.{BusMachine, bus_program_of, bus_settings_of, bus_world_of}
use Rattle.bus_state.specs.Text.{enabled_text}

abbrev pub text_of_event : BusMachine → BusEvent → List ℕ
text_of_event m e = enabled_text (bus_settings_of m) (bus_program_of m) (bus_world_of m) e
