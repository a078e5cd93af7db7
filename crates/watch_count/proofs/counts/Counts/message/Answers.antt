-- The fields are those after a message.
use Rattle.std.proofs.Common.{arith}
use Rattle.tcc_msg.specs.Plain.{msg_of}
use Rattle.watch_count.specs.CountsInside.{counts_of}
use Rattle.watch_count.proofs.Sending.{message-is, message-kept}
use Rattle.watch_count.proofs.counts.Counts.message.Goals as goal

pub invariant_of-self : goal.invariant_of-self
invariant_of-self c = record {
  kept = message-kept (counts_of c.self.inside) (msg_of c.args.msg.now) c.count_sent.new.messages c.self.invariant.kept c.count_sent.ensures
      (omega (arith, c.self.invariant.kept.small, c.if-self-lt5.false));
  since = c.self.invariant.since;
  events = omega (arith, c.self.invariant.events);
}

pub returns : goal.returns
returns c =
    message-is (counts_of c.self.inside) c.args.self.now (msg_of c.args.msg.now) c.count_sent.new.messages c.self.view_is
    c.count_sent.ensures
