-- What is written and the lines to come are what was there and all lines.
use Rattle.std.proofs.Common.{◌≡◌, ◌++◌, drop, map, string_bytes}
use Rattle.bus_state.specs.Plain.{bus_record_of}
use Rattle.bus_changes.specs.Changes.{Told, bus_change_lines}
use Rattle.bus_changes.proofs.lines.push_all_told.Given as goal

abbrev pub invariant-loop-told : goal.invariant-loop-told
invariant-loop-told l =
    string_bytes l.text ++ bus_change_lines (map Told (map bus_record_of (drop l.told-index l.records)))
    ≡ string_bytes l.fn.text ++ bus_change_lines (map Told (map bus_record_of l.records))
