-- Room is made, and what was sent is put on its links.
use Rattle.std.proofs.Common.{ap, subst, sym}
use Rattle.net_core.specs.Answers.{Kept}
use Rattle.net_core.specs.Inside.{machine_of}
use Rattle.net_core.proofs.Events.Runs.{kept-on}
use Rattle.net_core.proofs.Events.Kept.{room-whole, room-kept}
use Rattle.net_core.proofs.system.System.prepare.Goals as goal

pub invariant_of-self : goal.invariant_of-self
invariant_of-self c = room-whole (machine_of c.self.inside) _ _ c.self.invariant c.reserve.ensures.unchanged

pub returns-then-is_ok-clause-kept : goal.returns-then-is_ok-clause-kept
returns-then-is_ok-clause-kept c =
    let m = machine_of c.self.inside in
    kept-on c.args.self.now m _
    (subst (λ x. Kept c.args.self.now x) (sym c.self.view_is)
    (record { history = c.settle.ensures.history; events = c.settle.ensures.events; code = ap (λ d. d.code) c.settle.ensures.cores }))
    (room-kept m _ _ c.reserve.ensures.unchanged)
