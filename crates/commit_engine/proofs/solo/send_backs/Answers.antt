use Rattle.std.proofs.Common.{sym, ◌∙◌, arith, get_or}
use Rattle.tcc_base.specs.declared.names.LineAddr.{LineAddr}
use Rattle.tcc_base.specs.declared.names.Mask.{Mask}
use Rattle.spec_cache.specs.Home.{mark_of}
use Rattle.overflow_buf.specs.Kept.{spilled as words_of}
use Rattle.commit_engine.specs.Solo.{spilled_back}
use Rattle.commit_engine.proofs.SoloSteps.{homes_none, homes_more, homes_same, homes_all, back_some, back_none}
use Rattle.commit_engine.proofs.solo.send_backs.Goals.{then-holds, else-holds}
use Rattle.commit_engine.proofs.solo.send_backs.Goals as goal

pub loop-line-init : goal.loop-line-init
loop-line-init c =
    record { sent = homes_none c.args.out.now c.args.cfg.now (spilled_back (words_of c.args.spilled.now) c.args.tid.0) c.args.marks.now }

pub loop-line-preserved : goal.loop-line-preserved
loop-line-preserved c =
    let f = spilled_back (words_of c.args.spilled.now) c.args.tid.0 in
    let x : LineAddr × Mask = (record { 0 = 0 }, record { 0 = 0 }) in
    let m = mark_of (get_or c.args.marks.now c.loop-line.line-index x) in
    elim c.if-holds.branch [
      | then-holds w ↦ record {
        sent =
            rw w.out-is (homes_more c.args.out.now c.loop-line.out w.hand_out.new.self c.args.cfg.now f w.home_of.result _ c.args.marks.now
            c.loop-line.line-index x
            c.loop-line-test.true w.home_of.ensures
            (back_some w.line-kept.result (words_of c.args.spilled.now) c.args.tid.0 m w.line-kept.ensures
            (sym c.holds.ensures ∙ w.if-holds.true))
            c.loop-line.invariant.sent w.hand_out.ensures.sent w.hand_out.ensures.room);
      }
      | else-holds w ↦ record {
        sent = rw w.out-is (homes_same c.args.out.now c.loop-line.out c.args.cfg.now f c.args.marks.now c.loop-line.line-index x
            c.loop-line-test.true (back_none (words_of c.args.spilled.now) c.args.tid.0 m (sym c.holds.ensures ∙ w.if-holds.false))
            c.loop-line.invariant.sent);
      }
    ]

pub returns : goal.returns
returns c =
    homes_all c.args.out.now c.loop-line.out c.args.cfg.now (spilled_back (words_of c.args.spilled.now) c.args.tid.0) c.args.marks.now
    c.loop-line.line-index (omega arith)
    c.loop-line.invariant.sent
