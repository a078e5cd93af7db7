use Rattle.std.proofs.Common.{refl, map}
use Rattle.spec_cache.specs.Home.{mark_of}
use Rattle.commit_engine.specs.Solo.{closing}
use Rattle.commit_engine.proofs.Lemmas.{sent_none, sent_more}
use Rattle.commit_engine.proofs.SoloSteps.{closing_none, closing_some}
use Rattle.commit_engine.proofs.solo.close_all.Goals.{then-count-eq0, else-count-eq0}
use Rattle.commit_engine.proofs.solo.close_all.Goals as goal

pub loop-d-init : goal.loop-d-init
loop-d-init c = record { sent = sent_none c.args.out.now (closing c.args.cfg.now (map mark_of c.args.marks.now) c.args.tid.0) }

pub loop-d-preserved : goal.loop-d-preserved
loop-d-preserved c =
    let sh = c.args.cfg.now in
    let ms = map mark_of c.args.marks.now in
    let t = c.args.tid.0 in
    let n = c.count_here-count.result in
    elim c.if-count-eq0.branch [
      | then-count-eq0 w ↦ record {
        sent = rw w.out-is (sent_more c.args.out.now c.loop-d.out w.hand_out.new.self (closing sh ms t) c.loop-d.d _ _
            c.loop-d.invariant.sent w.hand_out.ensures.sent w.hand_out.ensures.room refl
            (closing_none sh ms t c.loop-d.d n c.count_here-count.ensures w.if-count-eq0.true));
      }
      | else-count-eq0 w ↦ record {
        sent = rw w.out-is (sent_more c.args.out.now c.loop-d.out w.hand_out-else-count-eq0.new.self (closing sh ms t) c.loop-d.d _ _
            c.loop-d.invariant.sent w.hand_out-else-count-eq0.ensures.sent w.hand_out-else-count-eq0.ensures.room refl
            (closing_some sh ms t c.loop-d.d n c.count_here-count.ensures w.if-count-eq0.false));
      }
    ]
