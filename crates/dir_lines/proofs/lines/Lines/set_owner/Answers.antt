use Rattle.std.proofs.Common.{◌∙◌, ap}
use Rattle.rules_maps.specs.Words.{put}
use Rattle.dir_lines.specs.Record.{lines_of}
use Rattle.dir_lines.proofs.Changes.{lines_of-with_owner}
use Rattle.dir_lines.proofs.lines.Lines.set_owner.Goals as goal

pub returns-clause-map : goal.returns-clause-map
returns-clause-map g c =
    ap lines_of c.set.ensures.records
    ∙ (ap (λ r. lines_of (put (g.Self.Lines.records c.args.self.now) c.args.line.0 (record r { owner = c.args.owner })))
    c.get-to.ensures.value
    ∙ lines_of-with_owner (g.Self.Lines.records c.args.self.now) c.args.line.0 c.args.owner)
