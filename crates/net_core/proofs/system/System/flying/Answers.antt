-- The messages on the links are those of the machine.
use Rattle.std.proofs.Common.{length, is_some, ap, ◌∙◌}
use Rattle.rules_maps.specs.Bridge.{node_of}
use Rattle.rules_maps.specs.Words.{those}
use Rattle.rules_tcc.specs.Links.{in_flight}
use Rattle.net_core.proofs.Links.Settling.{settled-links}
use Rattle.net_core.proofs.system.System.flying.Goals as goal

pub returns : goal.returns
returns c =
    let src = node_of c.args.src in
    let dst = node_of c.args.dst in
    c.waiting.ensures
    ∙ ap (λ net. length (those (λ k. is_some (in_flight net src dst k)) (length (net src dst))))
    (settled-links _ c.args.self.now c.self.view_is c.requires)
