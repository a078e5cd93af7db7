-- The core's own phase.
use Rattle.std.proofs.Common.{◌<◌, sym, ◌∙◌, subst, arith}
use Rattle.std.proofs.lemmas.List.{get_or_read}
use Rattle.image_load.specs.Contents.{started}
use Rattle.net_core.specs.Machine.{settings_of}
use Rattle.tcc_phase.proofs.system.PhaseSystem.phase.Goals as goal

pub index-requires : goal.index-requires
unfolding started
index-requires c =
    let at = subst (λ p. c.args.core.0 < (settings_of p.refined.machine).cores) (sym c.self.view_is) c.requires in
    let rows = c.self.invariant.kept.rows.own in
    omega (arith, at, rows, c.self.inside.standing.own.ok)

pub returns : goal.returns
unfolding started
returns c =
    let at = subst (λ p. c.args.core.0 < (settings_of p.refined.machine).cores) (sym c.self.view_is) c.requires in
    let rows = c.self.invariant.kept.rows.own in
    rw (← c.self.view_is)
    (get_or_read c.self.inside.standing.own.items c.args.core.0 c.index.result.now (omega (arith, at, rows)) c.index.ensures 0
    ∙ c.self.invariant.kept.own c.args.core.0 at)
