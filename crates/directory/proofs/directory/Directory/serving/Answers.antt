use Rattle.std.proofs.Common.{ap, ◌∙◌}
use Rattle.directory.specs.Data.{dir_of}
use Rattle.directory.proofs.directory.Directory.serving.Goals as goal

pub returns : goal.returns
unfolding dir_of
returns c = λ e. c.serving.ensures ∙ ap (λ d. d.serving.serving) c.self.view_is
