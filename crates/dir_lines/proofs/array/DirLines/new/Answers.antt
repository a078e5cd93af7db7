use Rattle.std.proofs.Common.{ap, ◌∙◌}
use Rattle.dir_lines.specs.Record.{lines_of}
use Rattle.dir_lines.specs.Kept.{kept}
use Rattle.dir_lines.proofs.Changes.{lines_of-blank}
use Rattle.dir_lines.proofs.array.DirLines.new.Goals as goal

pub returns-clause-map : goal.returns-clause-map
unfolding kept
returns-clause-map c = ap lines_of c.in_ok-new.ensures.blank ∙ lines_of-blank
