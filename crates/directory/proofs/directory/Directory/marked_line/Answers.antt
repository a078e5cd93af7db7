-- They are the marked lines of its map.
use Rattle.std.proofs.Common.{ap, ◌∙◌, slice_get}
use Rattle.rules_maps.specs.Lines.{has_mark}
use Rattle.rules_maps.specs.Shape.{lines}
use Rattle.rules_maps.specs.Words.{those}
use Rattle.dir_lines.specs.Kept.{kept}
use Rattle.directory.specs.Data.{dir_of}
use Rattle.directory.proofs.directory.Directory.marked_line.Goals as goal

pub returns : goal.returns
unfolding dir_of
returns c = λ e.
    c.marked_line.ensures
    ∙ ap (λ d. slice_get (those (has_mark (kept d.lines)) (lines d.lines.place.shape)) c.args.k) c.self.view_is
