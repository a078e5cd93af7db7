use Rattle.std.proofs.Common.{sym}
use Rattle.overflow_buf.proofs.Drained.{no_entry, no_word}
use Rattle.overflow_buf.proofs.buffer.OverflowBuf.is_empty.Goals as goal

pub returns : goal.returns
returns c =
    let es = c.self.inside.lines.entries in
    rw (sym c.self.view_is) (
      λ t. no_word es (c.is_empty.ensures.0 t),
      λ n. c.is_empty.ensures.1 (no_entry es c.self.invariant n),
    )
