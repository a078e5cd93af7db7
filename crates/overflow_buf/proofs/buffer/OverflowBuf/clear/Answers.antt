use Rattle.overflow_buf.proofs.Lines.{IsBuffer-empty, spilled-empty}
use Rattle.overflow_buf.proofs.buffer.OverflowBuf.clear.Goals as goal

pub invariant_of-self : goal.invariant_of-self
invariant_of-self c = rw c.clear.ensures.empty IsBuffer-empty

pub returns : goal.returns
returns c = rw c.clear.ensures.empty spilled-empty
