-- What is counted, with the facts that are left, is all that is to be counted.
use Rattle.std.proofs.Common.{◌≡◌, map, drop}
use Rattle.bus_watch.specs.Plain.{bus_fact_of}
use Rattle.bus_count.specs.Counts.{all_bus_counted, bus_event_begun}
use Rattle.bus_count.proofs.counts.BusCounts.event.Given as goal

abbrev pub invariant-loop-fact : goal.invariant-loop-fact
invariant-loop-fact l =
    all_bus_counted l.core.0 (map bus_fact_of (drop l.fact-index l.facts)) l.self
    ≡ all_bus_counted l.core.0 (map bus_fact_of l.facts) (bus_event_begun l.fn.self)
