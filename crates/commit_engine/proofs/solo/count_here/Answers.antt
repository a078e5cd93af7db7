use Rattle.std.proofs.Common.{sym, ◌∙◌, arith}
use Rattle.std.proofs.lemmas.Bool.{eq-eqb, ne_eqb}
use Rattle.commit_engine.proofs.SoloSteps.{here_none, here_in, here_out, here_all}
use Rattle.commit_engine.proofs.solo.count_here.Goals.{then-home_of-d, else-home_of-d}
use Rattle.commit_engine.proofs.solo.count_here.Goals as goal

pub loop-line-init : goal.loop-line-init
loop-line-init c = record { counted = here_none c.args.cfg.now c.args.d.0 c.args.marks.now; small = omega arith }

pub loop-line-preserved : goal.loop-line-preserved
loop-line-preserved c = elim c.if-home_of-d.branch [
  | then-home_of-d w ↦ record {
    counted =
        rw w.count-is (here_in c.args.cfg.now c.args.d.0 c.loop-line.count c.args.marks.now c.loop-line.line-index _ c.loop-line-test.true
        (eq-eqb c.args.d.0 _ (sym w.if-home_of-d.true ∙ c.home_of.ensures)) c.loop-line.invariant.counted);
    small = omega (arith, w.count-is, c.loop-line.invariant.small);
  }
  | else-home_of-d w ↦ record {
    counted =
        rw w.count-is (here_out c.args.cfg.now c.args.d.0 c.loop-line.count c.args.marks.now c.loop-line.line-index _ c.loop-line-test.true
        (ne_eqb c.args.d.0 _ (λ q. w.if-home_of-d.false (c.home_of.ensures ∙ sym q))) c.loop-line.invariant.counted);
    small = omega (arith, w.count-is, c.loop-line.invariant.small);
  }
]

pub returns : goal.returns
returns c = here_all c.args.cfg.now c.args.d.0 c.loop-line.count c.args.marks.now c.loop-line.line-index
    (omega arith) c.loop-line.invariant.counted
