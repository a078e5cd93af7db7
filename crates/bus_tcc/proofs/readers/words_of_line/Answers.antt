-- The words of a line.
use Rattle.std.proofs.Common.{◌≡◌, ◌+◌, ◌*◌, ◌∷◌, [], ap, ◌∙◌, arith}
use Rattle.rules_maps.specs.Words.{eight}
use Rattle.rules_bus.specs.Exec.{line_words}
use Rattle.bus_tcc.specs.Machine.{word_in}
use Rattle.bus_tcc.proofs.readers.words_of_line.Goals as goal

pub returns : goal.returns
unfolding eight line_words
returns c =
    let first : 8 * c.args.line.0 ≡ 8 * c.args.line.0 + 0 = omega arith in
    let zero = c.word_at.ensures ∙ ap (word_in c.args.ram.now) first in
    λ i. zero i ∷ c.word_at-2.ensures i ∷ c.word_at-3.ensures i ∷ c.word_at-4.ensures i ∷ c.word_at-5.ensures i ∷ c.word_at-6.ensures i
    ∷ c.word_at-7.ensures i ∷ c.word_at-8.ensures i ∷ []
