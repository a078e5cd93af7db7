-- The next fact is counted.
use Rattle.std.proofs.Common.{ap, map}
use Rattle.rules_maps.specs.Bridge.{node_of}
use Rattle.watch.specs.Plain.{fact_of}
use Rattle.watch_count.specs.Counts.{all_counted, event_counted}
use Rattle.watch_count.proofs.Views.{facts-more, facts-all}
use Rattle.watch_count.proofs.counts.Counts.event.Goals as goal

pub loop-fact-init : goal.loop-fact-init
loop-fact-init c = ap (all_counted (node_of c.args.actor) (map fact_of c.args.facts.now)) c.in_ok-begin.ensures

pub loop-fact-preserved : goal.loop-fact-preserved
loop-fact-preserved c =
    facts-more (node_of c.args.actor) c.args.facts.now c.loop-fact.fact-index _ c.loop-fact.self c.fact.new.self _
    c.loop-fact-test.true c.in_ok-fact.ensures c.loop-fact.invariant

pub returns : goal.returns
unfolding event_counted
returns c =
    facts-all (node_of c.args.actor) c.args.facts.now c.loop-fact.fact-index c.loop-fact.self _ c.loop-fact-test.false
    c.loop-fact.invariant
