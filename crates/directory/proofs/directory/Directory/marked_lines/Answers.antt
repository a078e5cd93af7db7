use Rattle.std.proofs.Common.{ap, ◌∙◌}
use Rattle.rules_maps.specs.Words.{count_below}
use Rattle.rules_maps.specs.Shape.{lines}
use Rattle.rules_maps.specs.Lines.{has_mark}
use Rattle.dir_lines.specs.Kept.{kept}
use Rattle.directory.specs.Data.{dir_of}
use Rattle.directory.proofs.directory.Directory.marked_lines.Goals as goal

pub returns : goal.returns
unfolding dir_of
returns c = λ e. c.marked_lines.ensures.count ∙ ap (λ d. count_below (has_mark (kept d.lines)) (lines d.lines.place.shape)) c.self.view_is
