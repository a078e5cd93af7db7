-- The messages on the links are those of the machine.
use Rattle.std.proofs.Common.{◌≡◌, length, is_some, ap, subst, Some, ◌∙◌}
use Rattle.std.specs.Prelude.{IfSome, slice_get}
use Rattle.rules_maps.specs.Bridge.{node_of}
use Rattle.rules_maps.specs.Words.{those}
use Rattle.tcc_msg.specs.Plain.{msg_of}
use Rattle.rules_tcc.specs.Links.{in_flight}
use Rattle.net_core.proofs.Links.Settling.{settled-links}
use Rattle.net_core.proofs.system.System.flying_at.Goals as goal

pub returns-clause-number : goal.returns-clause-number
returns-clause-number c =
    let src = node_of c.args.src in
    let dst = node_of c.args.dst in
    c.waiting_at.ensures.number
    ∙ ap (λ net. slice_get (those (λ k. is_some (in_flight net src dst k)) (length (net src dst))) c.args.i)
    (settled-links _ c.args.self.now c.self.view_is c.requires)

pub returns-clause-own : goal.returns-clause-own
returns-clause-own c =
    let src = node_of c.args.src in
    let dst = node_of c.args.dst in
    subst (λ net. IfSome c.waiting_at.result (λ p. in_flight net src dst p.0 ≡ Some (msg_of p.1.now)))
    (settled-links _ c.args.self.now c.self.view_is c.requires) c.waiting_at.ensures.own
