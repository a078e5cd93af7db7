use Rattle.std.proofs.Common.{◌<◌, ◌^◌, refl, arith}
use Rattle.std.proofs.lemmas.Nat.{pow_below}
use Rattle.overflow_buf.proofs.Lines.{word_alone}
use Rattle.overflow_buf.proofs.line.with_word.Goals as goal

pub returns-clause-words : goal.returns-clause-words
returns-clause-words c = word_alone c.args.old c.with_words.result c.args.k c.args.value _ _ c.requires.inside
    (let b : 2 ^ c.args.k < 256 = pow_below c.args.k 8 c.requires.inside in omega (arith, b)) refl c.with_words.ensures.words
