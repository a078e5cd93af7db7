-- Word by word.
use Rattle.std.proofs.Common.{◌≡◌, ◌+◌, ◌*◌, [], ◌∷◌, ap, ◌∙◌, arith}
use Rattle.rules_maps.specs.Words.{eight}
use Rattle.image_load.specs.Contents.{started}
use Rattle.checkpoint_text.proofs.dir_rows.loaded_words.Goals as goal

pub returns : goal.returns
unfolding eight
returns c =
    let first : 8 * c.args.line.0 ≡ 8 * c.args.line.0 + 0 = omega arith in
    λ i. (c.word.ensures ∙ ap (started c.args.code.now).word first) i ∷ c.word-2.ensures i ∷ c.word-3.ensures i ∷ c.word-4.ensures i
    ∷ c.word-5.ensures i ∷ c.word-6.ensures i
    ∷ c.word-7.ensures i ∷ c.word-8.ensures i ∷ []
