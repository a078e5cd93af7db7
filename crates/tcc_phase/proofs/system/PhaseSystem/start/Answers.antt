-- The first machine.
use Rattle.std.proofs.Common.{ap, ◌∙◌, subst}
use Rattle.image_load.specs.Contents.{Contents}
use Rattle.tcc_base.specs.Settings.{Settings}
use Rattle.net_core.specs.Machine.{Machine}
use Rattle.tcc_phase.specs.declared.standing.Standing.{Standing}
use Rattle.tcc_phase.proofs.Keeping.Kept.{in-phases-of}
use Rattle.tcc_phase.proofs.Starting.{IsFirst, kept-first, phased-first}
use Rattle.tcc_phase.proofs.system.PhaseSystem.start.Goals as goal

pub invariant_of-result : goal.invariant_of-result
invariant_of-result c =
    let k : Contents = c.args.loaded.now in
    let m : Machine = c.in_ok-refined.refined.machine in
    let l : Standing = c.in-Ok.standing in
    let r = c.in_ok-refined.ensures in
    let e = c.in-Ok.ensures in
    let allowed = c.taken.ensures.refined.allowed in
    let from = phased-first k m c.in_ok-refined.refined.taken r.code r.start r.taken in
    let cores = c.cores.ensures.value ∙ ap (λ (s : Settings). s.cores) c.config.ensures in
    let first : IsFirst k.settings.cores l = subst (λ n. IsFirst n l) cores
    (record { each = e.each; own = e.own; asked = e.asked; rows = e.rows; none = e.none; even = e.even }) in
    record {
      allowed = allowed;
      phased = record { from = from; in_phases = in-phases-of m c.in_ok-refined.refined.taken allowed from };
      kept = kept-first k m l r.code r.start first;
    }
