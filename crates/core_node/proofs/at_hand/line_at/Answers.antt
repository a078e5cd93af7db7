use Rattle.std.proofs.Common.{◌≡◌, ◌+◌, ◌*◌, ◌∷◌, [], ap, ◌∙◌, arith}
use Rattle.std.specs.Prelude.{get_or}
use Rattle.rules_maps.specs.Words.{eight}
use Rattle.core_node.proofs.at_hand.line_at.Goals as goal

pub returns : goal.returns
unfolding eight
returns c =
    let first : 8 * c.args.line.0 ≡ 8 * c.args.line.0 + 0 = omega arith in
    let zero = c.word_at.ensures ∙ ap (λ n. get_or c.args.ram.now n 0) first in
    λ i. zero i ∷ c.word_at-2.ensures i ∷ c.word_at-3.ensures i ∷ c.word_at-4.ensures i ∷ c.word_at-5.ensures i ∷ c.word_at-6.ensures i
    ∷ c.word_at-7.ensures i ∷ c.word_at-8.ensures i ∷ []
