use Rattle.overflow_buf.proofs.Lines.{IsBuffer-empty, spilled-empty}
use Rattle.overflow_buf.proofs.buffer.OverflowBuf.new.Goals as goal

pub invariant_of-result : goal.invariant_of-result
invariant_of-result c = rw c.new.ensures.empty IsBuffer-empty

pub returns : goal.returns
returns c = rw c.new.ensures.empty spilled-empty
