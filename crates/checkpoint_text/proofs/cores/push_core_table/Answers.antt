-- Core by core.
use Rattle.std.proofs.Common.{ap}
use Rattle.checkpoint_text.specs.Cores.{core_numbers}
use Rattle.checkpoint_text.proofs.Written.{each-more, numbered-end}
use Rattle.checkpoint_text.proofs.cores.push_core_table.Goals as goal

pub loop-k-preserved : goal.loop-k-preserved
loop-k-preserved c =
    each-more _ core_numbers _ _ _ _ _ _ _ _ c.loop-k-test.true c.index-cores-k.is
    (ap core_numbers c.core.ensures) c.loop-k.invariant c.in_ok-push_core.ensures

pub returns : goal.returns
returns c = numbered-end _ _ _ _ _ _ c.loop-k-test.false c.loop-k.invariant
