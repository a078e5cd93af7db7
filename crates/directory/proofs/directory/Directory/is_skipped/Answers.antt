use Rattle.std.proofs.Common.{ap, ◌∙◌}
use Rattle.rules_maps.specs.Serving.{is_skipped}
use Rattle.directory.specs.Data.{dir_of}
use Rattle.directory.proofs.directory.Directory.is_skipped.Goals as goal

pub returns : goal.returns
unfolding dir_of
returns c = λ e. c.is_skipped.ensures ∙ ap (λ d. is_skipped d.serving c.args.tid.0) c.self.view_is
