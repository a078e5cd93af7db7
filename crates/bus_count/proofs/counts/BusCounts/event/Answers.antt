-- The next fact is counted.
use Rattle.std.proofs.Common.{ap, map}
use Rattle.bus_watch.specs.Plain.{bus_fact_of}
use Rattle.bus_count.specs.Counts.{all_bus_counted, bus_event_counted}
use Rattle.bus_count.proofs.Folds.{facts-all, facts-more}
use Rattle.bus_count.proofs.counts.BusCounts.event.Goals as goal

pub loop-fact-init : goal.loop-fact-init
loop-fact-init c = ap (all_bus_counted c.args.core.0 (map bus_fact_of c.args.facts.now)) c.in_ok-begin.ensures

pub loop-fact-preserved : goal.loop-fact-preserved
loop-fact-preserved c =
    facts-more c.args.core.0 c.args.facts.now c.loop-fact.fact-index _ c.loop-fact.self c.count.new.self _ c.loop-fact-test.true
    c.in_ok-count.ensures c.loop-fact.invariant

pub returns : goal.returns
unfolding bus_event_counted
returns c =
    facts-all c.args.core.0 c.args.facts.now c.loop-fact.fact-index c.loop-fact.self _ c.loop-fact-test.false c.loop-fact.invariant
