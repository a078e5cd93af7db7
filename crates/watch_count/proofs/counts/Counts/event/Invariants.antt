-- What is counted, with the facts that are left, is all that is to be counted.
use Rattle.std.proofs.Common.{◌≡◌, map, drop}
use Rattle.rules_maps.specs.Bridge.{node_of}
use Rattle.watch.specs.Plain.{fact_of}
use Rattle.watch_count.specs.Counts.{all_counted, event_begun}
use Rattle.watch_count.proofs.counts.Counts.event.Given as goal

abbrev pub invariant-loop-fact : goal.invariant-loop-fact
invariant-loop-fact l =
    all_counted (node_of l.actor) (map fact_of (drop l.fact-index l.facts)) l.self
    ≡ all_counted (node_of l.actor) (map fact_of l.facts) (event_begun l.fn.self)
