use Rattle.std.proofs.Common.{◌∙◌, Some, None}
use Rattle.overflow_buf.specs.Kept.{word_in}
use Rattle.overflow_buf.proofs.Lines.{word_kept}
use Rattle.overflow_buf.proofs.buffer.OverflowBuf.get.Goals as goal

pub returns-in-None : goal.returns-in-None
returns-in-None c = (unfold word_in in word_kept c.args.self.now c.args.w.0 None c.in-None.ensures.value)

pub returns-in-Some : goal.returns-in-Some
returns-in-Some c = c.word.ensures ∙ word_kept c.args.self.now c.args.w.0 (Some c.in-Some.kept) c.in-Some.ensures.value
