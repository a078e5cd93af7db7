-- A piece of one message behind the others.
use Rattle.std.proofs.Common.{sym, ◌∙◌}
use Rattle.machine_links.proofs.Pieces.{pushed-new}
use Rattle.machine_links.proofs.rest.push_new.Goals as goal

pub returns-clause-ok : goal.returns-clause-ok
returns-clause-ok c =
    pushed-new c.args.pieces.now.items c.push.new.self.items c.in_ok-next.next c.args.waiting c.push.result c.push.ensures.items
    (sym c.is_err.ensures.value ∙ c.if-is_err.false) c.in_ok-next.ensures
