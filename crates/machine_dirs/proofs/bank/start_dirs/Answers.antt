-- One more directory as it was loaded.
use Rattle.std.proofs.Common.{◌+◌, subst, sym, ap, ◌∙◌}
use Rattle.image_load.specs.Contents.{started}
use Rattle.machine_dirs.proofs.Starts.{Begun, begun-push, begun-start}
use Rattle.machine_dirs.proofs.Parts.{dir-first}
use Rattle.machine_dirs.proofs.bank.start_dirs.Goals as goal

pub loop-d-preserved : goal.loop-d-preserved
unfolding started
loop-d-preserved c =
    let s = started c.args.loaded.now in
    let sh = c.args.config.now in
    let y = c.in_ok-start.field-0 in
    let e = c.in_ok-start.ensures in
    let shape = ap (λ p. p.shape) e.place ∙ sym c.requires in
    subst (λ ds. Begun s sh (c.loop-d.d + 1) ds) (sym c.in_ok-push.ensures)
    (begun-push s sh c.loop-d.d c.loop-d.dirs y c.loop-d.invariant e.place (dir-first s y e.start e.words_place shape e.fits))

pub returns-clause-start : goal.returns-clause-start
returns-clause-start c = begun-start (started c.args.loaded.now) c.args.config.now c.loop-d.d c.loop-d.dirs c.loop-d.invariant
