use Rattle.std.proofs.Common.{true, false, Some, ◌==◌, if◌then◌else◌, ◌∙◌, ap}
use Rattle.rules_maps.specs.Words.{put}
use Rattle.rules_maps.specs.Masks.{has}
use Rattle.dir_lines.specs.Record.{lines_of}
use Rattle.dir_lines.proofs.Changes.{lines_of-owned}
use Rattle.dir_lines.proofs.lines.Lines.own.Goals as goal

pub returns-clause-map : goal.returns-clause-map
returns-clause-map g c =
    ap lines_of c.set.ensures.records
    ∙ (ap (λ r. lines_of (put (g.Self.Lines.records c.args.self.now) c.args.line.0
    (record { sharers = c.with.result; owner = Some c.args.core; tag = c.args.tid; asked = false; mark = r.mark })))
    c.get-was.ensures.value
    ∙ lines_of-owned (g.Self.Lines.records c.args.self.now) c.args.line.0 c.args.core c.args.tid c.with.result
    (λ k. c.with.ensures k ∙ ap (λ r. if k == c.args.core.0 then true else has r.sharers.0 k) c.get-was.ensures.value))
