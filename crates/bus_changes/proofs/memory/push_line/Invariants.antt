-- The words so far are told.
use Rattle.std.proofs.Common.{◌≡◌, ◌++◌, string_bytes}
use Rattle.std.specs.List.{flat_map}
use Rattle.image_load.specs.Start.{first_ram}
use Rattle.rules_maps.specs.Words.{word_at}
use Rattle.rules_tcc.specs.Seen.{numbers}
use Rattle.bus_tcc.specs.Machine.{bus_settings_of, bus_start_of, bus_world_of, word_in}
use Rattle.bus_changes.specs.Changes.{bus_change_lines, word_changes}
use Rattle.bus_changes.proofs.memory.push_line.Given as goal

abbrev pub invariant-loop-k : goal.invariant-loop-k
invariant-loop-k l =
    string_bytes l.text
    ≡ string_bytes l.fn.text
    ++ bus_change_lines (flat_map (λ k. word_changes (bus_settings_of l.system) (first_ram (bus_start_of l.system)) (word_in l.was)
    (bus_world_of l.system).ram (word_at l.line k)) (numbers l.k))
