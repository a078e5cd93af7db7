-- What is written and the lines to come are what was there and all lines.
use Rattle.std.proofs.Common.{◌≡◌, ◌++◌, drop, map, string_bytes}
use Rattle.bus_state.specs.Lines.{bus_record_lines}
use Rattle.bus_state.specs.Plain.{bus_record_of}
use Rattle.bus_state.proofs.lines.push_bus_records.Given as goal

abbrev pub invariant-loop-told : goal.invariant-loop-told
invariant-loop-told l =
    string_bytes l.text ++ bus_record_lines (map bus_record_of (drop l.told-index l.records))
    ≡ string_bytes l.fn.text ++ bus_record_lines (map bus_record_of l.records)
