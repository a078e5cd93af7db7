-- The next line is counted.
use Rattle.rules_maps.specs.Nodes.{Core}
use Rattle.bus_count.proofs.Folds.{lines-all, lines-more}
use Rattle.bus_count.proofs.counts.count_taken.Goals as goal

pub loop-line-preserved : goal.loop-line-preserved
loop-line-preserved c =
    lines-more c.args.tid.0 (Core c.args.core.0) c.args.lines.now c.loop-line.line-index _ c.loop-line.common
    c.count_invalidated.new.common _ c.loop-line-test.true c.in_ok-count_invalidated.ensures c.loop-line.invariant

pub returns : goal.returns
returns c =
    lines-all c.args.tid.0 (Core c.args.core.0) c.args.lines.now c.loop-line.line-index c.loop-line.common _ c.loop-line-test.false
    c.loop-line.invariant
