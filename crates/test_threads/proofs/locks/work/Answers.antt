-- A turn of one act counts one at most.
use Rattle.std.proofs.Common.{◌∙◌, arith}
use Rattle.test_threads.proofs.Listing.{one-moved}
use Rattle.test_threads.proofs.locks.work.Goals as goal

pub loop-k-preserved : goal.loop-k-preserved
loop-k-preserved g c =
    let one = one-moved c.turn-acts.result c.turn-acts.ensures.turn in
    (omega (arith, c.loop-k.invariant.0, c.turn-acts.ensures.counted, one), c.turn-acts.ensures.parts ∙ c.loop-k.invariant.1)
