use Rattle.overflow_buf.proofs.Lines.{word_in-new, word_in-with, IsSpilled-new, IsSpilled-with, is_spilled}
use Rattle.overflow_buf.proofs.line.with_words.Goals as goal

pub returns-in-None-clause-words : goal.returns-in-None-clause-words
returns-in-None-clause-words c = λ k h. rw c.in-None.is (word_in-new c.args.mask c.args.words.now k)

pub returns-in-None-clause-in_order : goal.returns-in-None-clause-in_order
returns-in-None-clause-in_order c = IsSpilled-new c.args.mask c.args.words.now c.requires.some c.ranges.mask.fits c.told-words

pub returns-in-Some-clause-words : goal.returns-in-Some-clause-words
returns-in-Some-clause-words c =
    λ k h. rw (c.in-Some.is, c.merged_words.ensures) (word_in-with c.in-Some.line c.args.mask c.args.words.now k h)

pub returns-in-Some-clause-in_order : goal.returns-in-Some-clause-in_order
returns-in-Some-clause-in_order c =
    rw c.merged_words.ensures
    (IsSpilled-with c.in-Some.line c.args.mask c.args.words.now c.requires.some c.ranges.mask.fits
    (is_spilled c.args.old c.in-Some.line c.in-Some.is c.requires.in_order))
