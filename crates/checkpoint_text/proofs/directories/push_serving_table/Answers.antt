-- Directory by directory.
use Rattle.std.proofs.Common.{refl}
use Rattle.checkpoint_text.specs.Directories.{serving_numbers}
use Rattle.checkpoint_text.proofs.Written.{each-more, numbered-end}
use Rattle.checkpoint_text.proofs.directories.push_serving_table.Goals as goal

pub loop-k-preserved : goal.loop-k-preserved
loop-k-preserved c =
    each-more _ serving_numbers _ _ _ _ _ _ _ _ c.loop-k-test.true c.index-dirs-k.is refl c.loop-k.invariant c.in_ok-push_serving.ensures

pub returns : goal.returns
returns c = numbered-end _ _ _ _ _ _ c.loop-k-test.false c.loop-k.invariant
