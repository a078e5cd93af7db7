-- The records of the memory's lines so far are there.
use Rattle.std.proofs.Common.{◌≡◌, ◌++◌, map}
use Rattle.std.specs.List.{flat_map}
use Rattle.image_load.specs.Start.{first_ram}
use Rattle.rules_tcc.specs.Seen.{numbers}
use Rattle.bus_tcc.specs.Machine.{bus_settings_of, bus_start_of, bus_world_of}
use Rattle.bus_state.specs.Parts.{memory_records}
use Rattle.bus_state.specs.Plain.{bus_record_of}
use Rattle.bus_state.proofs.memory.add_memory.Given as goal

abbrev pub invariant-loop-line : goal.invariant-loop-line
invariant-loop-line l =
    map bus_record_of l.records
    ≡ map bus_record_of l.fn.records
    ++ flat_map (memory_records (bus_settings_of l.system) (first_ram (bus_start_of l.system)) (bus_world_of l.system).ram)
    (numbers l.line)
