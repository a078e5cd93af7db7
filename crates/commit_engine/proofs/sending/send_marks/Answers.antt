use Rattle.std.proofs.Common.{arith}
use Rattle.commit_engine.proofs.Marks.{marks_none, marks_more, marks_all}
use Rattle.commit_engine.proofs.sending.send_marks.Goals as goal

pub loop-line-init : goal.loop-line-init
loop-line-init c = record { sent = marks_none c.args.out.now c.args.d c.args.tid c.args.marks.now }

pub hand_out-requires : goal.hand_out-requires
hand_out-requires c = let s = c.loop-line.invariant.sent in omega (arith, c.requires, s.count, s.room)

pub loop-line-preserved : goal.loop-line-preserved
loop-line-preserved c = record {
  sent = marks_more c.args.out.now c.loop-line.out c.hand_out.new.self c.args.d c.args.tid c.args.marks.now c.loop-line.line-index _
      c.loop-line-test.true
      c.loop-line.invariant.sent c.hand_out.ensures.sent c.hand_out.ensures.room;
}

pub returns : goal.returns
returns c = marks_all c.args.out.now c.loop-line.out c.args.d c.args.tid c.args.marks.now c.loop-line.line-index
    (omega arith) c.loop-line.invariant.sent
