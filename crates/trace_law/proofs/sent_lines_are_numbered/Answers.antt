use Rattle.trace_law.proofs.Numbered.{sent-numbered}
use Rattle.trace_law.proofs.sent_lines_are_numbered.Goals as goal

pub returns : goal.returns
returns c = sent-numbered
