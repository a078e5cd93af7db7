-- The first machine is reached by no event.
use Rattle.std.proofs.Common.{◌∙◌, [], ap, subst, sym}
use Rattle.tcc_base.specs.Settings.{IsAllowed}
use Rattle.tcc_refine.specs.Refined.{IsRefined}
use Rattle.tcc_refine.proofs.Refining.{refined-by, run-first}
use Rattle.tcc_refine.proofs.refined.Refined.start.Goals as goal

pub invariant_of-result : goal.invariant_of-result
invariant_of-result c =
    let m = c.in_ok-system.system in
    let code = c.in_ok-system.ensures.code in
    let allowed = subst IsAllowed (c.config.ensures ∙ ap (λ k. k.settings) (sym code)) c.settings_are_allowed.ensures in
    subst (λ es. IsRefined (record { machine = m; taken = es })) (sym c.new.ensures.items)
    (refined-by m [] allowed (run-first c.args.loaded.now m code c.in_ok-system.ensures.start) (sym c.in_ok-system.ensures.events))
