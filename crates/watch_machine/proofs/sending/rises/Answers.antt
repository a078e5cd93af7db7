-- The next goes behind those before it; where none is left all rise.
use Rattle.watch_machine.proofs.Rising.{rises-done, rises-more}
use Rattle.watch_machine.proofs.sending.rises.Goals as goal

pub loop-to-preserved : goal.loop-to-preserved
loop-to-preserved c =
    λ r. c.loop-to.invariant
    (rises-more c.args.config.now c.args.messages.now c.loop-to.to-index c.loop-to.next c.in-Some.place _ c.loop-to-test.true
    c.in-Some.ensures.0 c.in-Some.ensures.1 c.if-place-next.false r)

pub returns : goal.returns
returns c =
    λ t. c.loop-to.invariant (rises-done c.args.config.now c.args.messages.now c.loop-to.to-index c.loop-to.next c.loop-to-test.false)
