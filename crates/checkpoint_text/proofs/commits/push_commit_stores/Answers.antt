-- Commit by commit.
use Rattle.std.proofs.Common.{◌∙◌, ap}
use Rattle.tcc_base.specs.declared.access.Commit.{Commit}
use Rattle.checkpoint_text.specs.Numbers.{stored_numbers}
use Rattle.checkpoint_text.proofs.Written.{all-more, numbered-end}
use Rattle.checkpoint_text.proofs.commits.push_commit_stores.Goals as goal

pub loop-k-preserved : goal.loop-k-preserved
loop-k-preserved c =
    all-more _ (λ (c : Commit). c.stores) stored_numbers _ _ _ _ _ _ _ _ c.loop-k-test.true c.index-commits-k.is
    (c.deref.ensures.value ∙ ap (λ (x : Commit). x.stores) c.commit.view_is) c.loop-k.invariant c.in_ok-push_stores.ensures

pub returns : goal.returns
returns c = numbered-end _ _ _ _ _ _ c.loop-k-test.false c.loop-k.invariant
