use Rattle.trace_law.proofs.Consumed.{consumed-once}
use Rattle.trace_law.proofs.WasSent.{heard-was-sent}
use Rattle.trace_law.proofs.messages_are_consumed_once.Goals as goal

pub returns-clause-heard : goal.returns-clause-heard
returns-clause-heard c = heard-was-sent

pub returns-clause-once : goal.returns-clause-once
returns-clause-once c = consumed-once
