-- What ends below the number is passed over, what reaches it is kept, and where both places meet is the piece.
use Rattle.std.proofs.Common.{◌+◌, ◌-◌, ◌/◌, ◌<◌, [], length, refl, ap, arith}
use Rattle.std.proofs.lemmas.List.{get_or_read}
use Rattle.machine_links.proofs.Passing.{between-all, between-up, between-down, between-end}
use Rattle.machine_links.proofs.rest.piece_of.Goals as goal

pub loop-low-init : goal.loop-low-init
loop-low-init c = between-all c.args.pieces.now c.args.seq

pub ends_below-requires : goal.ends_below-requires
ends_below-requires c =
    let xs = c.args.pieces.now in
    let mid = c.loop-low.low + (c.loop-low.high - c.loop-low.low) / 2 in
    let lt : mid < length xs = omega (arith, c.loop-low.invariant.within, c.loop-low-test.true) in
    omega (arith, c.requires.full mid lt, ap length (get_or_read xs mid c.index-pieces-mid.result lt c.index-pieces-mid.is []))

pub loop-low-preserved-then-ends_below : goal.loop-low-preserved-then-ends_below
loop-low-preserved-then-ends_below c =
    let mid = c.loop-low.low + (c.loop-low.high - c.loop-low.low) / 2 in
    between-up c.args.pieces.now c.args.seq c.loop-low.low c.loop-low.high mid c.index-pieces-mid.result c.requires.rising c.requires.full
    c.loop-low.invariant (omega (arith, c.loop-low-test.true)) c.index-pieces-mid.is (c.if-ends_below.ensures.below refl)

pub loop-low-preserved : goal.loop-low-preserved
loop-low-preserved c =
    let mid = c.loop-low.low + (c.loop-low.high - c.loop-low.low) / 2 in
    between-down c.args.pieces.now c.args.seq c.loop-low.low c.loop-low.high mid c.index-pieces-mid.result c.loop-low.invariant
    (omega arith) (omega (arith, c.loop-low-test.true)) c.index-pieces-mid.is (c.if-ends_below.ensures.reaches refl)

pub returns : goal.returns
returns c = between-end c.args.pieces.now c.args.seq c.loop-low.low c.loop-low.high c.requires.rising c.requires.full c.loop-low.invariant
    (omega (arith, c.loop-low-test.false))
