use Rattle.std.proofs.Common.{ap, ◌∙◌}
use Rattle.dir_lines.specs.Kept.{kept}
use Rattle.dir_lines.specs.Pages.{pages_at}
use Rattle.dir_lines.specs.Record.{lines_of}
use Rattle.dir_lines.specs.Restored.{with_record}
use Rattle.dir_lines.proofs.Restoring.{lines_of-with_record}
use Rattle.dir_lines.proofs.array.DirLines.restore.Goals as goal

pub returns-clause-map : goal.returns-clause-map
unfolding kept
returns-clause-map c =
    ap lines_of c.set.ensures.records
    ∙ (lines_of-with_record (pages_at c.self.inside.lines) c.args.line.0 c.args.to
    ∙ ap (λ p. with_record c.args.line.0 c.args.to (kept p)) c.self.view_is)
