-- Two fields, or one.
use Rattle.watch_trace.specs.Words.{message_words}
use Rattle.watch_trace.proofs.words.push_message.Goals as goal

pub returns-in-LoadReq : goal.returns-in-LoadReq
unfolding message_words
returns-in-LoadReq c = rw c.in-LoadReq.is c.push_fields.ensures

pub returns-in-ProbeReply : goal.returns-in-ProbeReply
unfolding message_words
returns-in-ProbeReply c = rw c.in-ProbeReply.is c.push_fields-in-ProbeReply.ensures

pub returns-in-DataReq : goal.returns-in-DataReq
unfolding message_words
returns-in-DataReq c = rw c.in-DataReq.is c.push_field-in-DataReq.ensures
