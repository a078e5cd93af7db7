use Rattle.std.proofs.Common.{◌==◌, if◌then◌else◌, ◌∙◌, ap}
use Rattle.rules_maps.specs.Words.{put}
use Rattle.rules_maps.specs.Masks.{has}
use Rattle.dir_lines.specs.Record.{lines_of}
use Rattle.dir_lines.proofs.Changes.{lines_of-with_sharer}
use Rattle.dir_lines.proofs.lines.Lines.set_shares.Goals as goal

pub returns-clause-map : goal.returns-clause-map
returns-clause-map g c =
    ap lines_of c.set.ensures.records
    ∙ (ap (λ r. lines_of (put (g.Self.Lines.records c.args.self.now) c.args.line.0 (record r { sharers = c.with-to.result })))
    c.get-to.ensures.value
    ∙ lines_of-with_sharer (g.Self.Lines.records c.args.self.now) c.args.line.0 c.args.core.0 c.args.on c.with-to.result
    (λ k. c.with-to.ensures k ∙ ap (λ r. if k == c.args.core.0 then c.args.on else has r.sharers.0 k) c.get-to.ensures.value))
