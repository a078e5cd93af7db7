-- What is written and the lines to come are what was there and all lines.
use Rattle.std.proofs.Common.{◌≡◌, ◌++◌, drop, map, string_bytes}
use Rattle.std.specs.List.{flat_map}
use Rattle.watch.specs.Plain.{fact_of}
use Rattle.watch_trace.specs.Lines.{fact_line}
use Rattle.watch_trace.proofs.facts.push_facts.Given as goal

abbrev pub invariant-loop-fact : goal.invariant-loop-fact
invariant-loop-fact l = string_bytes l.text ++ flat_map fact_line (map fact_of (drop l.fact-index l.facts))
    ≡ string_bytes l.fn.text ++ flat_map fact_line (map fact_of l.facts)
