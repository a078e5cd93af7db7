use Rattle.std.proofs.Common.{◌∙◌, ◌%◌, Option, ap, Some, cond, nat_eq}
use Rattle.overflow_buf.specs.declared.line.SpilledLine.{SpilledLine}
use Rattle.overflow_buf.specs.Kept.{word_in}
use Rattle.overflow_buf.proofs.Lines.{spilled-put}
use Rattle.overflow_buf.proofs.buffer.OverflowBuf.put.Goals as goal

pub returns-clause-kept : goal.returns-clause-kept
returns-clause-kept c =
    spilled-put c.args.self.now c.keep.new.self c.args.w.0 c.with_word-kept.result c.args.value c.in_ok-keep.ensures.kept
    (λ k h. c.with_word-kept.ensures.words k h
    ∙ ap (λ (o : Option SpilledLine). cond (nat_eq k (c.args.w.0 % 8)) (Some c.args.value) (word_in o k)) c.kept.ensures.value)
