use Rattle.std.proofs.Common.{All, IsTrue, rules, subst, take_all, arith}
use Rattle.std.proofs.lemmas.Grind.{common_steps}
use Rattle.row_text.specs.Rows.{is_word_byte}
use Rattle.row_text.proofs.Fronts.{all-more}
use Rattle.row_text.proofs.reading.are_word_bytes.Goals as goal

pub loop-byte-preserved : goal.loop-byte-preserved
loop-byte-preserved c =
    all-more (λ b. IsTrue (is_word_byte b)) c.args.bytes.now c.loop-byte.byte-index c.loop-byte-test.true c.loop-byte.invariant
    (grind (arith, common_steps))

pub returns : goal.returns
returns c = (
  λ _. subst (All (λ b. IsTrue (is_word_byte b))) (take_all c.loop-byte.byte-index c.args.bytes.now c.loop-byte-test.false)
      c.loop-byte.invariant,
  λ _. search rules,
)
