-- The words that were loaded.
use Rattle.std.proofs.Common.{◌≡◌, ℕ, ◌+◌, ◌/◌, ◌%◌, ap, sym, ◌∙◌, subst, arith}
use Rattle.image_load.specs.Contents.{started}
use Rattle.bus_tcc.proofs.Starting.{AreWords, all-words, one-more_word, word-is}
use Rattle.bus_tcc.proofs.engine.start_words.Goals as goal

pub loop-w-preserved : goal.loop-w-preserved
loop-w-preserved c =
    let f : ℕ → ℕ = λ w. (started c.args.loaded.now).word w % 4294967296 in
    subst (AreWords f (c.loop-w.w + 1)) (sym c.in_ok-push.ensures)
    (one-more_word f c.loop-w.w c.loop-w.words c.word.result c.loop-w.invariant
    (word-is c.args.loaded.now c.loop-w.w c.word.result c.word.ensures c.word.type_inv))

pub returns-clause-count : goal.returns-clause-count
returns-clause-count c =
    let every : c.loop-w.w ≡ c.words-count.result = omega (arith, c.loop-w-test.false, c.loop-w.auto.w-end) in
    c.loop-w.invariant.count ∙ every ∙ c.words-count.ensures.value ∙ ap (λ s. s.ram / 4) c.config.ensures

pub returns-clause-words : goal.returns-clause-words
returns-clause-words c =
    let every : c.loop-w.w ≡ c.words-count.result = omega (arith, c.loop-w-test.false, c.loop-w.auto.w-end) in
    all-words c.args.loaded.now c.loop-w.w c.loop-w.words (every ∙ c.words-count.ensures.value ∙ ap (λ s. s.ram / 4) c.config.ensures)
    c.loop-w.invariant
