-- The links are those of the machine.
use Rattle.std.proofs.Common.{length, ap, ◌∙◌}
use Rattle.rules_maps.specs.Bridge.{node_of}
use Rattle.net_core.proofs.Links.Settling.{settled-links}
use Rattle.net_core.proofs.system.System.sent_on.Goals as goal

pub returns : goal.returns
returns c =
    c.sent.ensures
    ∙ ap (λ net. length (net (node_of c.args.src) (node_of c.args.dst))) (settled-links _ c.args.self.now c.self.view_is c.requires)
