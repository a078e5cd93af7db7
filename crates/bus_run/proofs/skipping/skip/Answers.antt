-- The next event is taken, or none comes any more.
use Rattle.std.proofs.Common.{arith, option_map, subst}
use Rattle.bus_tcc.specs.Machine.{bus_event_of}
use Rattle.bus_run.specs.Going.{Moves}
use Rattle.bus_run.proofs.Before.{skipping-ends, skipping-more}
use Rattle.bus_run.proofs.skipping.skip.Goals as goal

pub returns-in_default : goal.returns-in_default
returns-in_default c =
    skipping-ends c.args.run.now c.loop.run c.take_next.new.self c.loop.counter c.args.from c.loop.invariant
    (subst (λ o. Moves c.loop.run c.take_next.new.self (option_map bus_event_of o)) c.in_default.is c.in_ok-take_next.ensures)
    (omega (arith, c.loop-test.true, c.loop.auto.counter-end))

pub take_next-requires : goal.take_next-requires
take_next-requires c = let words = c.loop.invariant.gone.words in omega (arith, words, c.requires.few)

pub loop-preserved : goal.loop-preserved
loop-preserved c =
    skipping-more c.args.run.now c.loop.run c.take_next.new.self c.loop.counter (bus_event_of c.in-Some.field-0) c.loop.invariant
    (subst (λ o. Moves c.loop.run c.take_next.new.self (option_map bus_event_of o)) c.in-Some.is c.in_ok-take_next.ensures)
