use Rattle.std.proofs.Common.{◌≡◌, ◌≤◌, length, slice_get, take, refl, ap, sym, ◌∙◌, arith}
use Rattle.rules_maps.specs.Words.{those}
use Rattle.rules_maps.specs.Shape.{lines}
use Rattle.rules_maps.specs.Lines.{has_mark}
use Rattle.dir_lines.specs.Kept.{kept}
use Rattle.dir_lines.specs.Owned.{owned_line}
use Rattle.dir_lines.proofs.Lemmas.{kept-at_home, listed-at_home, listed-count}
use Rattle.directory.proofs.Owning.{owned_some, owned-none, owned-more, owned-all}
use Rattle.directory.proofs.Told.{take-next, take-past, take-whole}
use Rattle.directory.proofs.invalidate.own_marked.Goals as goal
use Rattle.directory.proofs.invalidate.own_marked.Goals.{in-Some, in_default}

pub loop-k-init : goal.loop-k-init
loop-k-init c = (refl, owned-none c.args.src.0 c.args.tid.0 (kept c.args.lines.now))

pub own-requires-clause-at_home : goal.own-requires-clause-at_home
own-requires-clause-at_home c = listed-at_home c.loop-k.lines c.loop-k.k c.in-Some.line.0 (sym c.in-Some.ensures)

pub loop-k-preserved : goal.loop-k-preserved
loop-k-preserved c =
    let same : those (has_mark (kept c.loop-k.lines)) (lines c.loop-k.lines.place.shape) ≡ those (has_mark (kept c.args.lines.now))
    (lines c.args.lines.now.place.shape) =
    λ i. those (has_mark (c.loop-k.invariant.1 i)) (lines (c.loop-k.invariant.0 i).shape) in
    elim c.match-marked_line.branch [
      | in-Some w ↦ (
        ap (λ p. p.place) w.lines-is ∙ (w.own.ensures.place ∙ c.loop-k.invariant.0),
        ap kept w.lines-is
            ∙ (w.own.ensures.map
            ∙ (ap (λ ls. owned_line w.in-Some.line.0 c.args.src.0 c.args.tid.0 ls) c.loop-k.invariant.1
            ∙ (owned-more c.args.src.0 c.args.tid.0 w.in-Some.line.0
            (take c.loop-k.k (those (has_mark (kept c.args.lines.now)) (lines c.args.lines.now.place.shape)))
            (kept c.args.lines.now)
            ∙ ap (λ xs. owned_some c.args.src.0 c.args.tid.0 xs (kept c.args.lines.now))
            (sym (take-next (those (has_mark (kept c.args.lines.now)) (lines c.args.lines.now.place.shape)) c.loop-k.k w.in-Some.line.0
            (ap (λ xs. slice_get xs c.loop-k.k) (sym same) ∙ sym w.in-Some.ensures)))))),
      )
      | in_default w ↦ (
        ap (λ p. p.place) w.lines-is ∙ c.loop-k.invariant.0,
        ap kept w.lines-is
            ∙ (c.loop-k.invariant.1
            ∙ ap (λ xs. owned_some c.args.src.0 c.args.tid.0 xs (kept c.args.lines.now))
            (sym (take-past (those (has_mark (kept c.args.lines.now)) (lines c.args.lines.now.place.shape)) c.loop-k.k
            (ap (λ xs. slice_get xs c.loop-k.k) (sym same) ∙ sym w.in_default.ensures)))),
      )
    ]

pub returns-clause-map : goal.returns-clause-map
returns-clause-map c =
    let all : length (those (has_mark (kept c.args.lines.now)) (lines c.args.lines.now.place.shape)) ≤ c.loop-k.k =
    omega (arith, listed-count c.args.lines.now, c.marked_lines-k-end.ensures.count) in
    c.loop-k.invariant.1
    ∙ (ap (λ xs. owned_some c.args.src.0 c.args.tid.0 xs (kept c.args.lines.now))
    (take-whole (those (has_mark (kept c.args.lines.now)) (lines c.args.lines.now.place.shape)) c.loop-k.k all)
    ∙ owned-all c.args.src.0 c.args.tid.0 (lines c.args.lines.now.place.shape) (kept c.args.lines.now)
    (λ l e. (kept-at_home c.args.lines.now l e).0))
