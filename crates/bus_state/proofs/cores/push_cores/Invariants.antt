-- The records of the cores so far are written.
use Rattle.std.proofs.Common.{◌≡◌, ◌++◌, string_bytes}
use Rattle.std.specs.List.{flat_map}
use Rattle.rules_tcc.specs.Seen.{numbers}
use Rattle.bus_tcc.specs.Machine.{bus_settings_of, bus_world_of}
use Rattle.watch_state.specs.Lines.{record_lines}
use Rattle.bus_state.specs.Parts.{bus_core_records}
use Rattle.bus_state.proofs.cores.push_cores.Given as goal

abbrev pub invariant-loop-core : goal.invariant-loop-core
invariant-loop-core l =
    string_bytes l.text
    ≡ string_bytes l.fn.text
    ++ record_lines (flat_map (λ c. bus_core_records (bus_settings_of l.system) c ((bus_world_of l.system).cores c)) (numbers l.core))
