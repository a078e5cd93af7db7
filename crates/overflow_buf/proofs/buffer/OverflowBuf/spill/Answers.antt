use Rattle.std.proofs.Common.{◌∙◌, Option, ap, Some, cond, get_or}
use Rattle.rules_maps.specs.Masks.{has}
use Rattle.overflow_buf.specs.declared.line.SpilledLine.{SpilledLine}
use Rattle.overflow_buf.specs.Kept.{word_in}
use Rattle.overflow_buf.proofs.Lines.{spilled-kept, spill-none}
use Rattle.overflow_buf.proofs.buffer.OverflowBuf.spill.Goals as goal

pub returns-then-mask-eq0-clause-kept : goal.returns-then-mask-eq0-clause-kept
returns-then-mask-eq0-clause-kept c = spill-none c.args.line.0 c.args.mask.0 c.args.words.now _ c.if-mask-eq0.true

pub returns-clause-kept : goal.returns-clause-kept
returns-clause-kept c =
    spilled-kept c.args.self.now c.keep.new.self c.args.line.0 c.with_words-kept.result c.args.mask.0 c.args.words.now
    c.in_ok-keep.ensures.kept
    (λ k h. c.with_words-kept.ensures.words k h
    ∙ ap (λ (o : Option SpilledLine). cond (has c.args.mask.0 k) (Some (get_or c.args.words.now k 0)) (word_in o k))
    c.kept.ensures.value)
