-- The lines of the cores so far are written.
use Rattle.std.proofs.Common.{◌≡◌, ◌++◌, string_bytes}
use Rattle.std.specs.List.{flat_map}
use Rattle.rules_tcc.specs.Seen.{numbers}
use Rattle.bus_tcc.specs.Machine.{bus_program_of, bus_settings_of, bus_world_of}
use Rattle.bus_state.specs.Text.{core_evicts, enabled_lines}
use Rattle.bus_state.proofs.events.push_evicts.Given as goal

abbrev pub invariant-loop-core : goal.invariant-loop-core
invariant-loop-core l =
    string_bytes l.text
    ≡ string_bytes l.fn.text
    ++ enabled_lines (bus_settings_of l.system) (bus_program_of l.system) (bus_world_of l.system)
    (flat_map (core_evicts (bus_settings_of l.system)) (numbers l.core))
