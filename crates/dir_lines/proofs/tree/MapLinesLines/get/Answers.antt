use Rattle.std.proofs.Common.{sym, subst, ap, ◌∙◌}
use Rattle.dir_lines.specs.Home.{IsAtHome}
use Rattle.dir_lines.specs.Filed.{filed_at}
use Rattle.dir_lines.specs.FiledInside.{filed_of}
use Rattle.dir_lines.proofs.Filing.{filed_at-found}
use Rattle.dir_lines.proofs.tree.MapLinesLines.get.Goals as goal

pub returns-in-Some-clause-value : goal.returns-in-Some-clause-value
returns-in-Some-clause-value c =
    filed_at-found (filed_of c.self.inside) c.args.line.0 c.in-Some.record.now
    (subst (λ q. IsAtHome q.place c.args.line.0) (sym c.self.view_is) c.requires) c.in-Some.ensures.value
    ∙ ap (λ q. filed_at q c.args.line.0) c.self.view_is
