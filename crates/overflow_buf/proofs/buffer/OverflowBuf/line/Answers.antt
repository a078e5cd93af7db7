use Rattle.overflow_buf.proofs.Lines.{is_spilled, line-drained, line-none}
use Rattle.overflow_buf.proofs.buffer.OverflowBuf.line.Goals as goal

pub returns-in-None : goal.returns-in-None
returns-in-None c = line-none c.args.self.now c.args.line.0 c.args.tid.0 c.in-None.ensures.value

pub returns-in-Some : goal.returns-in-Some
returns-in-Some c =
    rw c.tagged.ensures (line-drained c.args.self.now c.args.line.0 c.in-Some.kept c.in-Some.ensures.value
    (is_spilled c.kept.result c.in-Some.kept c.in-Some.is (rw c.kept.ensures.value (c.kept.ensures.in_order c.args.line.0))) c.args.tid.0)
