-- Commit by commit.
use Rattle.std.proofs.Common.{◌∙◌, ap}
use Rattle.tcc_base.specs.declared.access.Commit.{Commit}
use Rattle.checkpoint_text.specs.Numbers.{byte_numbers}
use Rattle.checkpoint_text.proofs.Written.{all-more, numbered-end}
use Rattle.checkpoint_text.proofs.commits.push_commit_bytes.Goals as goal

pub loop-k-preserved : goal.loop-k-preserved
loop-k-preserved c =
    all-more _ (λ (c : Commit). c.console) byte_numbers _ _ _ _ _ _ _ _ c.loop-k-test.true c.index-commits-k.is
    (c.deref.ensures.value ∙ ap (λ (x : Commit). x.console) c.commit.view_is) c.loop-k.invariant c.in_ok-push_bytes.ensures

pub returns : goal.returns
returns c = numbered-end _ _ _ _ _ _ c.loop-k-test.false c.loop-k.invariant
