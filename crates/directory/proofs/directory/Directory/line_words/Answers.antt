-- The words of the line in the array.
use Rattle.std.proofs.Common.{ap, ◌∙◌}
use Rattle.rules_maps.specs.Words.{eight, word_at}
use Rattle.dir_lines.specs.Words.{words_at}
use Rattle.directory.specs.Data.{dir_of}
use Rattle.directory.proofs.directory.Directory.line_words.Goals as goal

pub returns : goal.returns
unfolding dir_of
returns c = λ e. c.line.ensures e ∙ ap (λ d. eight (λ k. words_at e d.words (word_at c.args.line.0 k))) c.self.view_is
