-- The event that the next word picks is taken, or the run ends.
use Rattle.std.proofs.Common.{◌+◌, arith, sym, subst}
use Rattle.tcc_pick.specs.Words.{seeded}
use Rattle.tcc_phase.proofs.Picked.{Going, going-ends, going-more, going-same, going-stops}
use Rattle.tcc_phase.proofs.running.phase_run.Goals as goal

pub loop-preserved : goal.loop-preserved
loop-preserved c =
    let put = c.in_ok-settle.ensures in
    let did = c.in-Ok.ensures in
    let settled = going-same c.settle.new.self c.loop.invariant put.history put.taken put.events put.code in
    subst (λ g. Going c.args.loaded.now c.step.new.self (seeded c.args.seed) g c.args.steps (c.loop.counter + 1)) (sym
    c.in-Some.ensures.drawn)
    (going-more c.step.new.self c.in-Some.e settled c.loop-test.true (sym c.in-Some.ensures.chosen) did.next did.taken did.counted did.code)

-- no event is left
pub returns-in_default-clause-picked : goal.returns-in_default-clause-picked
returns-in_default-clause-picked c =
    let put = c.in_ok-settle.ensures in
    going-stops (going-same c.settle.new.self c.loop.invariant put.history put.taken put.events put.code) c.loop-test.true
    (sym c.in_default.ensures.chosen)

-- all words are drawn
pub returns-clause-picked : goal.returns-clause-picked
returns-clause-picked c =
    let put = c.in_ok-settle-2.ensures in
    going-ends (going-same c.settle-2.new.self c.loop.invariant put.history put.taken put.events put.code)
    (omega (arith, c.loop-test.false, c.loop.auto.counter-end))
