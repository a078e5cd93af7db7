use Rattle.tcc_msg.specs.Plain.{msg_of}
use Rattle.commit_engine.specs.Sent.{Sent, to_first, to_members}
use Rattle.commit_engine.proofs.sending.send_each.Given as goal

abbrev pub invariant-loop-d : goal.invariant-loop-d
invariant-loop-d l = record {
  sent : Sent l.fn.out l.out (to_first l.d (to_members l.set.bits (msg_of l.msg))) l.d;
}
