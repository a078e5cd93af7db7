-- Core by core.
use Rattle.std.proofs.Common.{◌∙◌, ap}
use Rattle.core_node.specs.declared.state.Core.{Core}
use Rattle.checkpoint_text.specs.Numbers.{local_numbers}
use Rattle.checkpoint_text.proofs.Written.{each-more, numbered-end}
use Rattle.checkpoint_text.proofs.cores.push_saved_table.Goals as goal

pub loop-k-preserved : goal.loop-k-preserved
loop-k-preserved c =
    each-more _ (λ (x : Core). local_numbers x.check) _ _ _ _ _ _ _ _ c.loop-k-test.true c.index-cores-k.is
    (ap local_numbers (c.restore.ensures ∙ c.check.ensures)) c.loop-k.invariant c.in_ok-push_local.ensures

pub returns : goal.returns
returns c = numbered-end _ _ _ _ _ _ c.loop-k-test.false c.loop-k.invariant
