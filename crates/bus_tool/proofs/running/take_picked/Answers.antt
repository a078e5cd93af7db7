-- The event that the next word picks is taken, or the call ends.
use Rattle.std.proofs.Common.{◌+◌, arith, sym, subst}
use Rattle.bus_tcc.specs.Machine.{bus_event_of}
use Rattle.bus_tool.proofs.Picked.{Going, going-ends, going-more, going-none, going-stops}
use Rattle.bus_tool.proofs.running.take_picked.Goals as goal

pub loop-init : goal.loop-init
loop-init c = going-none c.args.bus.now c.args.words.now c.args.steps

pub loop-preserved : goal.loop-preserved
loop-preserved c =
    let did = c.in-Ok.ensures in
    subst (λ g. Going c.args.bus.now c.step.new.self c.args.words.now g c.args.steps (c.loop.counter + 1)) (sym c.in-Some.ensures.drawn)
    (going-more c.step.new.self (bus_event_of c.in-Some.e) c.loop.invariant c.loop-test.true (sym c.in-Some.ensures.chosen) did.next
    did.events did.code)

-- no event is useful
pub returns-in_default : goal.returns-in_default
returns-in_default c = going-stops c.loop.invariant c.loop-test.true (sym c.in_default.ensures.chosen)

-- all words are drawn
pub returns : goal.returns
returns c = going-ends c.loop.invariant (omega (arith, c.loop-test.false, c.loop.auto.counter-end))
