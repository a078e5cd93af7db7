-- It stands in this piece, or behind it.
use Rattle.std.proofs.Common.{sym, ◌∙◌, arith, ap, subst, ◌≡◌, ◌<◌, ◌-◌, ◌+◌, drop}
use Rattle.std.specs.Prelude.{slice_get}
use Rattle.std.specs.List.{count_by}
use Rattle.std.proofs.lemmas.List.{get_or_read}
use Rattle.machine_links.specs.Pieces.{flat}
use Rattle.machine_links.proofs.Pieces.{ready}
use Rattle.machine_links.proofs.Passing.{ready-on, ready-here, ready-end}
use Rattle.machine_links.proofs.rest.nth_marked.Goals as goal

pub returns-then-left-marked : goal.returns-then-left-marked
returns-then-left-marked c =
    let xs = c.args.pieces.now in
    let x = c.index-pieces-at.result in
    let y = c.index-pieces-at-then-left-marked.result in
    let same : x ≡ y = get_or_read xs c.loop-at.at x c.loop-at-test.true c.index-pieces-at.is y
    ∙ sym c.index-pieces-at-then-left-marked.is in
    let lt : c.loop-at.left < count_by (λ w. w.held.ready) y =
    subst (λ z. c.loop-at.left < count_by (λ w. w.held.ready) z) same (omega (arith, c.if-left-marked.true, c.marked-marked.ensures)) in
    c.nth_ready.ensures ∙ ready-here xs c.loop-at.at c.loop-at.left c.args.k y c.loop-at-test.true
    c.index-pieces-at-then-left-marked.is c.loop-at.invariant lt

pub loop-at-preserved : goal.loop-at-preserved
loop-at-preserved c =
    let xs = c.args.pieces.now in
    ap (λ n. slice_get (ready (flat (drop (c.loop-at.at + 1) xs))) (c.loop-at.left - n)) c.marked-marked.ensures
    ∙ ready-on xs c.loop-at.at c.loop-at.left c.args.k c.index-pieces-at.result c.loop-at-test.true c.index-pieces-at.is
    c.loop-at.invariant (omega (arith, c.if-left-marked.false, c.marked-marked.ensures))

pub returns : goal.returns
returns c = ready-end c.args.pieces.now c.loop-at.at c.loop-at.left c.args.k c.loop-at-test.false c.loop-at.invariant
