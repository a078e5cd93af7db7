-- Place by place.
use Rattle.std.proofs.Common.{◌+◌, sym, ◌∙◌, subst, arith}
use Rattle.net_core.proofs.Words.Places.{DoneBelow, done-free, done-held, under-copies}
use Rattle.net_core.proofs.copies.newest_under.Goals as goal
use Rattle.net_core.proofs.copies.newest_under.Goals.{then-has, else-has}

pub loop-k-preserved : goal.loop-k-preserved
loop-k-preserved c =
    elim c.if-has.branch [
      | then-has w ↦
          subst (DoneBelow c.args.mask.0 c.args.words.now c.args.tag.0 (c.loop-k.k + 1) c.args.best.now) (sym w.best-is)
          (done-held _ _ _ c.loop-k.k _ _ w.newer.result c.loop-k.invariant c.loop-k-test.true (sym c.has.ensures ∙ w.if-has.true)
          w.newer.ensures)
      | else-has w ↦
          subst (DoneBelow c.args.mask.0 c.args.words.now c.args.tag.0 (c.loop-k.k + 1) c.args.best.now) (sym w.best-is)
          (done-free _ _ _ c.loop-k.k _ _ c.loop-k.invariant (sym c.has.ensures ∙ w.if-has.false))
    ]

pub returns : goal.returns
returns c = λ line k b.
    c.loop-k.invariant.done k (omega (arith, b, c.loop-k-test.false))
    ∙ under-copies line c.args.mask.0 c.args.words.now c.args.tag.0 k _ b
