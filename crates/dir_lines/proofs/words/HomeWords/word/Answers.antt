use Rattle.std.proofs.Common.{◌≡◌, ◌+◌, ◌%◌, length, get_or, sym, ap, ◌∙◌, arith}
use Rattle.std.proofs.lemmas.List.{get_or_read}
use Rattle.dir_lines.proofs.WordsAt.{words_at-own}
use Rattle.dir_lines.proofs.words.HomeWords.word.Goals as goal

pub returns : goal.returns
returns c = λ e.
    let same : length c.self.inside.words.items ≡ length c.args.self.now.words = ap (λ p. length p.words) c.self.view_is in
    get_or_read c.self.inside.words.items _ _ (omega (arith, c.first.ensures.within)) c.index.ensures 0
    ∙ (ap (λ p. get_or p.words (c.first.result + c.args.w.0 % 8) 0) c.self.view_is
    ∙ (ap (λ n. get_or c.args.self.now.words (n + c.args.w.0 % 8) 0) c.first.ensures.place
    ∙ sym (words_at-own e c.args.self.now c.args.w.0 c.requires)))
