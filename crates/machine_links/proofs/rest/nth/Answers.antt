-- It stands in this piece, or behind it.
use Rattle.std.proofs.Common.{sym, ◌∙◌, arith, ap, length, subst, ◌≡◌, ◌<◌, ◌-◌, ◌+◌, drop}
use Rattle.std.specs.Prelude.{slice_get}
use Rattle.std.proofs.lemmas.List.{get_or_read}
use Rattle.machine_links.specs.Pieces.{flat}
use Rattle.machine_links.proofs.Passing.{place-on, place-here, place-end}
use Rattle.machine_links.proofs.rest.nth.Goals as goal

pub returns-then-left-len : goal.returns-then-left-len
returns-then-left-len c =
    let xs = c.args.pieces.now in
    let x = c.index-pieces-at.result in
    let y = c.index-pieces-at-then-left-len.result in
    let same : x ≡ y = get_or_read xs c.loop-at.at x c.loop-at-test.true c.index-pieces-at.is y ∙ sym c.index-pieces-at-then-left-len.is in
    let lt : c.loop-at.left < length y =
    subst (λ z. c.loop-at.left < length z) same (omega (arith, c.if-left-len.true, c.len-len.ensures)) in
    c.at.ensures ∙ place-here xs c.loop-at.at c.loop-at.left c.args.i y c.loop-at-test.true c.index-pieces-at-then-left-len.is
    c.loop-at.invariant lt

pub loop-at-preserved : goal.loop-at-preserved
loop-at-preserved c =
    let xs = c.args.pieces.now in
    ap (λ n. slice_get (flat (drop (c.loop-at.at + 1) xs)) (c.loop-at.left - n)) c.len-len.ensures
    ∙ place-on xs c.loop-at.at c.loop-at.left c.args.i c.index-pieces-at.result c.loop-at-test.true c.index-pieces-at.is
    c.loop-at.invariant (omega (arith, c.if-left-len.false, c.len-len.ensures))

pub returns : goal.returns
returns c = place-end c.args.pieces.now c.loop-at.at c.loop-at.left c.args.i c.loop-at-test.false c.loop-at.invariant
