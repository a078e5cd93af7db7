-- From the end on none is smaller, up to the first that is.
use Rattle.std.proofs.Common.{◌-◌, ◌<◌, ◌≤◌, length, refl, sym, subst, arith}
use Rattle.std.proofs.lemmas.Option.{slice_get_read}
use Rattle.tcc_base.specs.declared.access.Commit.{Commit}
use Rattle.tcc_phase.proofs.Places.{first-smaller, last-smaller, place-most}
use Rattle.tcc_phase.proofs.standing.place_of.Goals as goal

pub loop-at-init : goal.loop-at-init
loop-at-init c = (omega arith, place-most c.args.tid.0 c.args.commits.now)

pub loop-at-preserved : goal.loop-at-preserved
loop-at-preserved c =
    let i = c.loop-at.invariant.0 in
    let d : Commit = c.index-commits-at.result in
    let larger : c.args.tid.0 ≤ d.tid.0 =
    subst (λ (x : Commit). c.args.tid.0 ≤ x.tid.0) (sym c.index-commits-at.is) c.if-tid-commits.true in
    let at = slice_get_read c.args.commits.now (length c.args.commits.now) (c.loop-at.at - 1) d refl (omega (arith, i, c.loop-at-test.true))
    c.index-commits-at.is in
    (omega (arith, i), last-smaller 0 c.args.tid.0 c.args.commits.now (c.loop-at.at - 1) d c.requires at larger)

pub returns-else-tid-commits : goal.returns-else-tid-commits
returns-else-tid-commits c =
    let i = c.loop-at.invariant.0 in
    let m = c.loop-at.invariant.1 in
    let d : Commit = c.index-commits-at.result in
    let less : d.tid.0 < c.args.tid.0 =
    subst (λ (x : Commit). x.tid.0 < c.args.tid.0) (sym c.index-commits-at.is) (omega (arith, c.if-tid-commits.false)) in
    let at = slice_get_read c.args.commits.now (length c.args.commits.now) (c.loop-at.at - 1) d refl (omega (arith, i, c.loop-at-test.true))
    c.index-commits-at.is in
    let f = first-smaller 0 c.args.tid.0 c.args.commits.now (c.loop-at.at - 1) d c.requires at less in
    omega (arith, m, f, c.loop-at-test.true)
