use Rattle.std.proofs.Common.{◌≡◌, ◌+◌, ◌*◌, ◌^◌, ◌<◌, [], ◌∷◌, ap, ◌∙◌, arith}
use Rattle.rules_maps.specs.Words.{eight}
use Rattle.image_load.specs.Contents.{started}
use Rattle.directory.proofs.LoadedWords.{all-eight}
use Rattle.directory.proofs.loading.loaded_line.Goals as goal

pub returns-clause-words : goal.returns-clause-words
unfolding eight
returns-clause-words c =
    let first : 8 * c.args.line ≡ 8 * c.args.line + 0 = omega arith in
    λ i. (c.word.ensures ∙ ap (started c.args.loaded.now).word first) i ∷ c.word-2.ensures i ∷ c.word-3.ensures i ∷ c.word-4.ensures i
    ∷ c.word-5.ensures i ∷ c.word-6.ensures i
    ∷ c.word-7.ensures i ∷ c.word-8.ensures i ∷ []

pub returns-clause-fits : goal.returns-clause-fits
returns-clause-fits c =
    let ram = (started c.args.loaded.now).word in
    let first : 8 * c.args.line ≡ 8 * c.args.line + 0 = omega arith in
    let zeroth : ram (8 * c.args.line + 0) < 2 ^ 32 = rw (← first) (rw (← c.word.ensures) (omega arith)) in
    all-eight (λ k. ram (8 * c.args.line + k)) (2 ^ 32) zeroth
    (rw (← c.word-2.ensures) (omega arith)) (rw (← c.word-3.ensures) (omega arith)) (rw (← c.word-4.ensures) (omega arith))
    (rw (← c.word-5.ensures) (omega arith)) (rw (← c.word-6.ensures) (omega arith)) (rw (← c.word-7.ensures) (omega arith))
    (rw (← c.word-8.ensures) (omega arith))
