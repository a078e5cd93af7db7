-- Commit by commit.
use Rattle.std.proofs.Common.{refl}
use Rattle.checkpoint_text.specs.Commits.{commit_numbers}
use Rattle.checkpoint_text.proofs.Written.{each-more, numbered-end}
use Rattle.checkpoint_text.proofs.commits.push_heads.Goals as goal

pub loop-k-preserved : goal.loop-k-preserved
loop-k-preserved c =
    each-more _ commit_numbers _ _ _ _ _ _ _ _ c.loop-k-test.true c.index-commits-k.is refl c.loop-k.invariant
    c.in_ok-push_commit.ensures

pub returns : goal.returns
returns c = numbered-end _ _ _ _ _ _ c.loop-k-test.false c.loop-k.invariant
