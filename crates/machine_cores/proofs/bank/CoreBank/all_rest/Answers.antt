-- Whether all cores are at rest.
use Rattle.std.proofs.Common.{sym, ◌∙◌}
use Rattle.machine_cores.proofs.Resting.{among, come-to, one-more_rests, rests-here, rests-there}
use Rattle.machine_cores.proofs.bank.CoreBank.all_rest.Goals as goal

pub returns-then-not-rests : goal.returns-then-not-rests
returns-then-not-rests c =
    let h = come-to _ c.self.inside _ _ _ _ c.self-inside.view_is c.self.invariant c.self.view_is c.deref-core-items.ensures.value
    c.loop-core-test.true c.core-item.is in (
      λ q. absurd (cc),
      λ rest. sym c.if-not-rests.true ∙ c.rests.ensures.1 (rests-there _ _ _ _ h (rest c.loop-core.core-index (among _ _ _ _ h))),
    )

pub loop-core-preserved : goal.loop-core-preserved
loop-core-preserved c =
    let h = come-to _ c.self.inside _ _ _ _ c.self-inside.view_is c.self.invariant c.self.view_is c.deref-core-items.ensures.value
    c.loop-core-test.true c.core-item.is in
    one-more_rests c.args.self.now c.loop-core.core-index c.loop-core.invariant
    (rests-here _ _ _ _ h (c.rests.ensures.0 c.if-not-rests.false))
