use Rattle.std.proofs.Common.{◌≡◌, ◌+◌, ◌*◌, ◌∷◌, [], ap, ◌∙◌, arith}
use Rattle.rules_maps.specs.Words.{eight}
use Rattle.core_node.specs.AtHand.{line_told, word_told}
use Rattle.core_node.specs.View.{core_of}
use Rattle.core_node.proofs.writing.line_here.Goals as goal

pub returns : goal.returns
unfolding eight line_told
returns c =
    let first : 8 * c.args.line.0 ≡ 8 * c.args.line.0 + 0 = omega arith in
    let zero = c.word_here.ensures ∙ ap (word_told (core_of c.args.core.now)) first in
    λ i. record {
      line = c.args.line;
      mask = c.args.mask;
      words = zero i ∷ c.word_here-2.ensures i ∷ c.word_here-3.ensures i ∷ c.word_here-4.ensures i ∷ c.word_here-5.ensures i
          ∷ c.word_here-6.ensures i ∷ c.word_here-7.ensures i ∷ c.word_here-8.ensures i ∷ [];
      tag = c.args.tid;
    }
