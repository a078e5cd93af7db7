-- What is counted, with the messages that are left, is all that is to be counted.
use Rattle.std.proofs.Common.{◌≡◌, map, drop}
use Rattle.std.specs.List.{fold}
use Rattle.tcc_msg.specs.Plain.{msg_of}
use Rattle.watch_count.specs.Counts.{message_sent}
use Rattle.watch_count.proofs.counts.Counts.sent.Given as goal

abbrev pub invariant-loop-msg : goal.invariant-loop-msg
invariant-loop-msg l =
    fold message_sent l.self (map (λ m. msg_of m.1) (drop l.msg-index l.messages))
    ≡ fold message_sent l.fn.self (map (λ m. msg_of m.1) l.messages)
