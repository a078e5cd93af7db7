-- The next core's numbers are kept.
use Rattle.watch_count.proofs.Testing.{kept-more, pushed, settled-more}
use Rattle.watch_count.proofs.restoring.kept_cores.Goals as goal

pub loop-core-preserved : goal.loop-core-preserved
loop-core-preserved c =
    let now = pushed _ _ _ _ c.push.ensures.items c.in_ok-map_err.ensures.variant in
    record {
      numbers = kept-more c.args.cores.now c.loop-core.core-index _ _ _ c.loop-core-test.true now c.loop-core.invariant.numbers;
      since = settled-more _ _ _ now c.loop-core.invariant.since;
    }
