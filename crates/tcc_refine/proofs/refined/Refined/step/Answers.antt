-- One event more.
use Rattle.std.proofs.Common.{◌∙◌, ◌++◌, ◌∷◌, [], ap, subst, sym}
use Rattle.tcc_base.specs.Settings.{IsAllowed}
use Rattle.tcc_refine.specs.Refined.{IsRefined}
use Rattle.tcc_refine.proofs.Refining.{count-more, refined-by, run-more}
use Rattle.tcc_refine.proofs.refined.Refined.step.Goals as goal

pub invariant_of-self-in-Ok : goal.invariant_of-self-in-Ok
invariant_of-self-in-Ok c =
    let m = c.self.inside.system in
    let n = c.step.new.self in
    let old = c.self.inside.taken.items in
    let items = c.push_reserved.ensures.items ∙ ap (λ es. es ++ c.args.e ∷ []) c.reserve.ensures.items in
    let allowed = subst (λ k. IsAllowed k.settings) (sym c.in-Ok.ensures.code) c.self.invariant.allowed in
    subst (λ es. IsRefined (record { machine = n; taken = es })) (sym items)
    (refined-by n (old ++ c.args.e ∷ []) allowed
    (run-more m n old c.args.e c.self.invariant.is_run c.in-Ok.ensures.next c.in-Ok.ensures.code)
    (count-more m n old c.args.e c.self.invariant.count c.in-Ok.ensures.counted))
