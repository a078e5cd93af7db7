-- The next event is taken and counted.
use Rattle.std.proofs.Common.{ap, arith, map, option_map, subst, ◌∙◌}
use Rattle.bus_tcc.specs.Machine.{bus_event_of}
use Rattle.bus_watch.specs.Plain.{bus_fact_of}
use Rattle.bus_count.specs.Counts.{bus_event_counted}
use Rattle.bus_run.specs.Going.{Moves}
use Rattle.bus_run.proofs.Counts.{tallied-all, tallied-ends, tallied-more, tallied-none}
use Rattle.bus_run.proofs.counting.count_events.Goals as goal

pub loop-init : goal.loop-init
loop-init c = tallied-none c.args.run.now c.args.counts.now

pub take_next-requires : goal.take_next-requires
take_next-requires c = let words = c.loop.invariant.gone.words in omega (arith, words, c.requires.few)

pub returns-in_default : goal.returns-in_default
returns-in_default c =
    tallied-ends c.args.run.now c.loop.run c.take_next.new.self c.loop.counter c.args.counts.now c.loop.counts c.loop.invariant
    (subst (λ o. Moves c.loop.run c.take_next.new.self (option_map bus_event_of o)) c.in_default.is c.in_ok-e.ensures)

pub loop-preserved : goal.loop-preserved
loop-preserved c =
    tallied-more c.args.run.now c.loop.run c.take_next.new.self c.loop.counter c.args.counts.now c.loop.counts c.event.new.self
    (bus_event_of c.in-Some.e) c.loop.invariant
    (subst (λ o. Moves c.loop.run c.take_next.new.self (option_map bus_event_of o)) c.in-Some.is c.in_ok-e.ensures)
    (c.in_ok-event.ensures ∙ (λ i. bus_event_counted (c.core_of.ensures i)
    (map bus_fact_of ((c.deref.ensures.value ∙ ap (λ r. r.facts) c.run.view_is) i)) c.loop.counts))

pub returns : goal.returns
returns c =
    tallied-all c.args.run.now c.loop.run c.loop.counter c.args.counts.now c.loop.counts c.loop.invariant
    (omega (arith, c.loop-test.false, c.loop.auto.counter-end))
