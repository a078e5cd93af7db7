use Rattle.std.proofs.Common.{ap, ◌∙◌}
use Rattle.dir_lines.specs.Words.{words_at}
use Rattle.directory.specs.Data.{dir_of}
use Rattle.directory.proofs.directory.Directory.word.Goals as goal

pub returns : goal.returns
unfolding dir_of
returns c = λ e. c.word.ensures e ∙ ap (λ d. words_at e d.words c.args.w.0) c.self.view_is
