-- What is written and the lines to come are what was there and all lines.
use Rattle.std.proofs.Common.{◌≡◌, ◌++◌, drop, map, string_bytes}
use Rattle.std.specs.List.{flat_map}
use Rattle.bus_watch.specs.Plain.{bus_fact_of}
use Rattle.bus_trace.specs.Lines.{bus_fact_line}
use Rattle.bus_trace.proofs.facts.push_bus_facts.Given as goal

abbrev pub invariant-loop-fact : goal.invariant-loop-fact
invariant-loop-fact l = string_bytes l.text ++ flat_map bus_fact_line (map bus_fact_of (drop l.fact-index l.facts))
    ≡ string_bytes l.fn.text ++ flat_map bus_fact_line (map bus_fact_of l.facts)
