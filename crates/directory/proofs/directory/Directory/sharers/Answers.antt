use Rattle.std.proofs.Common.{ap, ◌∙◌}
use Rattle.dir_lines.specs.Kept.{kept}
use Rattle.directory.specs.Data.{dir_of}
use Rattle.directory.proofs.directory.Directory.sharers.Goals as goal

pub returns : goal.returns
unfolding dir_of
returns c = λ e n. c.get.ensures.sharers n ∙ ap (λ d. (kept d.lines).sharers c.args.line.0 n) c.self.view_is
