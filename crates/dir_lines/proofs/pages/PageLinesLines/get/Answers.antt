use Rattle.std.proofs.Common.{sym, subst, ap, ◌∙◌}
use Rattle.dir_lines.specs.Home.{IsAtHome}
use Rattle.dir_lines.specs.Pages.{pages_at}
use Rattle.dir_lines.specs.PagesInside.{pages_of}
use Rattle.dir_lines.proofs.PagesKeep.{read-own}
use Rattle.dir_lines.proofs.pages.PageLinesLines.get.Goals as goal

pub returns-clause-value : goal.returns-clause-value
returns-clause-value c =
    read-own (pages_of c.self.inside) c.args.line.0 c.dirs.result c.index.result.now
    (record { exists = c.self.invariant.home.1; count = c.self.invariant.count })
    (subst (λ q. IsAtHome q.place c.args.line.0) (sym c.self.view_is) c.requires) c.dirs.ensures.value c.index.ensures
    ∙ ap (λ q. pages_at q c.args.line.0) c.self.view_is
