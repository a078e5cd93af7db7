-- Core by core.
use Rattle.std.proofs.Common.{ap, map}
use Rattle.tcc_base.specs.declared.names.Tid.{Tid}
use Rattle.core_node.specs.declared.state.Core.{Core}
use Rattle.checkpoint_text.proofs.Written.{each-more, numbered-end}
use Rattle.checkpoint_text.proofs.cores.push_after_table.Goals as goal

pub loop-k-preserved : goal.loop-k-preserved
loop-k-preserved c =
    each-more _ (λ (x : Core). map (λ (t : Tid). t.0) x.after) _ _ _ _ _ _ _ _ c.loop-k-test.true c.index-cores-k.is
    (ap (λ (x : Core). map (λ (t : Tid). t.0) x.after) c.core.ensures) c.loop-k.invariant c.in_ok-push_after.ensures

pub returns : goal.returns
returns c = numbered-end _ _ _ _ _ _ c.loop-k-test.false c.loop-k.invariant
