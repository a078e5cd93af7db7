-- Core by core.
use Rattle.std.proofs.Common.{◌∙◌, ap}
use Rattle.core_node.specs.declared.state.Core.{Core}
use Rattle.checkpoint_text.specs.Numbers.{stored_numbers}
use Rattle.checkpoint_text.proofs.Written.{all-more, numbered-end}
use Rattle.checkpoint_text.proofs.cores.push_store_table.Goals as goal

pub loop-k-preserved : goal.loop-k-preserved
loop-k-preserved c =
    all-more _ (λ (x : Core). x.stores) stored_numbers _ _ _ _ _ _ _ _ c.loop-k-test.true c.index-cores-k.is
    (c.deref.ensures.value ∙ ap (λ (x : Core). x.stores) (c.behind-node.view_is ∙ c.core.ensures))
    c.loop-k.invariant c.in_ok-push_stores.ensures

pub returns : goal.returns
returns c = numbered-end _ _ _ _ _ _ c.loop-k-test.false c.loop-k.invariant
