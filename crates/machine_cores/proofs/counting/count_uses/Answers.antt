-- The counts of all cores.
use Rattle.std.proofs.Common.{◌∙◌}
use Rattle.machine_cores.proofs.Starts.{all-counted, next-count}
use Rattle.machine_cores.proofs.counting.count_uses.Goals as goal

pub loop-c-preserved : goal.loop-c-preserved
loop-c-preserved c =
    next-count _ _ _ _ _ _ _ _ _ c.requires.cores (c.deref-core-items.ensures.value ∙ c.cores.view_is) c.loop-c-test.true
    c.core-item.is c.recount.ensures.execs c.recount.ensures.evicts c.loop-c.invariant

pub returns : goal.returns
returns c =
    all-counted _ _ _ _ _ _ c.requires.cores (c.deref-core-items.ensures.value ∙ c.cores.view_is) c.loop-c-test.false c.loop-c.invariant
