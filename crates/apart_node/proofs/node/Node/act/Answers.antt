-- One event is done.
use Rattle.std.proofs.Common.{sym, ◌∙◌}
use Rattle.apart_node.proofs.Keeping.Gathering.{gathers-then}
use Rattle.apart_node.proofs.Keeping.Performing.{on_err-of}
use Rattle.apart_node.proofs.node.Node.act.Goals as goal

pub returns-then-is_err-2-clause-acted : goal.returns-then-is_err-2-clause-acted
returns-then-is_err-2-clause-acted g c =
    gathers-then _ _ _ c.refresh.ensures.gathers
    (rw c.choose.ensures.same at (on_err-of c.perform.result _ (sym c.is_err-2.ensures.value ∙ c.if-is_err-2.true)
    c.perform.ensures.unchanged))
