-- The records of the words so far are there.
use Rattle.std.proofs.Common.{◌≡◌, ◌++◌, map}
use Rattle.std.specs.List.{flat_map}
use Rattle.image_load.specs.Start.{first_ram}
use Rattle.rules_maps.specs.Words.{word_at}
use Rattle.rules_tcc.specs.Seen.{numbers}
use Rattle.bus_tcc.specs.Machine.{bus_settings_of, bus_start_of, bus_world_of}
use Rattle.bus_state.specs.Parts.{memory_record}
use Rattle.bus_state.specs.Plain.{bus_record_of}
use Rattle.bus_state.proofs.memory.add_line.Given as goal

abbrev pub invariant-loop-k : goal.invariant-loop-k
invariant-loop-k l =
    map bus_record_of l.records
    ≡ map bus_record_of l.fn.records
    ++ flat_map (λ k. memory_record (bus_settings_of l.system) (first_ram (bus_start_of l.system)) (bus_world_of l.system).ram
    (word_at l.line.0 k)) (numbers l.k)
