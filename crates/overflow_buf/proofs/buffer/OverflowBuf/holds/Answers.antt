use Rattle.std.proofs.Common.{◌∙◌}
use Rattle.overflow_buf.proofs.Lines.{holds-line}
use Rattle.overflow_buf.proofs.buffer.OverflowBuf.holds.Goals as goal

pub returns : goal.returns
returns c = c.is_some.ensures ∙ holds-line c.args.self.now c.args.line.0 c.kept.result c.kept.ensures.value
    (rw c.kept.ensures.value (c.kept.ensures.in_order c.args.line.0))
