-- The next message is counted.
use Rattle.watch_count.proofs.Sending.{sent-more, sent-all}
use Rattle.watch_count.proofs.counts.Counts.sent.Goals as goal

pub loop-msg-preserved : goal.loop-msg-preserved
loop-msg-preserved c =
    sent-more c.args.messages.now c.loop-msg.msg-index _ c.loop-msg.self c.message.new.self _ c.loop-msg-test.true c.in_ok-message.ensures
    c.loop-msg.invariant

pub returns : goal.returns
returns c =
    sent-all c.args.messages.now c.loop-msg.msg-index c.loop-msg.self _ c.loop-msg-test.false c.loop-msg.invariant
