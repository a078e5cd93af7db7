-- Core by core.
use Rattle.std.proofs.Common.{ap}
use Rattle.core_node.specs.declared.state.Core.{Core}
use Rattle.checkpoint_text.specs.Cores.{spilled_numbers}
use Rattle.checkpoint_text.proofs.Written.{all-more, numbered-end}
use Rattle.checkpoint_text.proofs.cores.push_spilled_table.Goals as goal

pub loop-k-preserved : goal.loop-k-preserved
loop-k-preserved c =
    all-more _ (λ (x : Core). x.spilled) spilled_numbers _ _ _ _ _ _ _ _ c.loop-k-test.true c.index-cores-k.is
    (ap (λ (x : Core). x.spilled) c.core.ensures) c.loop-k.invariant c.in_ok-push_spilled.ensures

pub returns : goal.returns
returns c = numbered-end _ _ _ _ _ _ c.loop-k-test.false c.loop-k.invariant
