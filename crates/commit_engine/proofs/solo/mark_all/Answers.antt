use Rattle.std.proofs.Common.{refl, arith}
use Rattle.commit_engine.specs.Solo.{marked_line}
use Rattle.commit_engine.proofs.SoloSteps.{homes_none, homes_more, homes_all}
use Rattle.commit_engine.proofs.solo.mark_all.Goals as goal

pub loop-line-init : goal.loop-line-init
loop-line-init c = record { sent = homes_none c.args.out.now c.args.cfg.now (marked_line c.args.tid.0) c.args.marks.now }

pub loop-line-preserved : goal.loop-line-preserved
unfolding marked_line
loop-line-preserved c = record {
  sent = homes_more c.args.out.now c.loop-line.out c.hand_out.new.self c.args.cfg.now
      (marked_line c.args.tid.0) c.home_of.result _ c.args.marks.now c.loop-line.line-index _
      c.loop-line-test.true c.home_of.ensures refl c.loop-line.invariant.sent c.hand_out.ensures.sent c.hand_out.ensures.room;
}

pub returns : goal.returns
returns c = homes_all c.args.out.now c.loop-line.out c.args.cfg.now (marked_line c.args.tid.0) c.args.marks.now c.loop-line.line-index
    (omega arith) c.loop-line.invariant.sent
