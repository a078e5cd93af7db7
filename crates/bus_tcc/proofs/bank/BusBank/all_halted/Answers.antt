-- Whether all cores have halted.
use Rattle.std.proofs.Common.{◌≡◌, ap, sym, ◌∙◌}
use Rattle.rules_tcc.specs.State.{Halted}
use Rattle.machine_cores.specs.Bank.{cores_of}
use Rattle.bus_tcc.proofs.Banks.{among, come-to, one-more, state-here}
use Rattle.bus_tcc.proofs.bank.BusBank.all_halted.Goals as goal

pub returns-then-not-halted : goal.returns-then-not-halted
returns-then-not-halted c =
    let h = come-to _ c.self.inside _ _ _ _ c.self-inside.view_is c.self.invariant c.self.view_is c.deref-core-items.ensures.value
    c.loop-core-test.true c.core-item.is in (
      λ q. absurd (cc),
      λ all. sym c.if-not-halted.true
          ∙ c.halted.ensures.1 (ap (λ s. s.phase) (state-here _ _ _ _ h) ∙ all c.loop-core.core-index (among _ _ _ _ h)),
    )

pub loop-core-preserved : goal.loop-core-preserved
loop-core-preserved c =
    let h = come-to _ c.self.inside _ _ _ _ c.self-inside.view_is c.self.invariant c.self.view_is c.deref-core-items.ensures.value
    c.loop-core-test.true c.core-item.is in
    one-more (λ j. (cores_of c.args.self.now j).phase ≡ Halted) c.loop-core.core-index c.loop-core.invariant
    (sym (ap (λ s. s.phase) (state-here _ _ _ _ h)) ∙ c.halted.ensures.0 (c.if-not-halted.false))
