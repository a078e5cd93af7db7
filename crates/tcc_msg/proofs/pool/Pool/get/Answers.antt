use Rattle.std.proofs.Common.{◌∙◌, ap}
use Rattle.tcc_msg.specs.Held.{held}
use Rattle.tcc_msg.proofs.Names.{held-is, messages-same}
use Rattle.tcc_msg.proofs.pool.Pool.get.Goals as goal

pub returns : goal.returns
returns g c =
    c.get.ensures.value
    ∙ (held-is c.self.inside.arrived.entries c.args.name ∙ ap (λ es. held es c.args.name) (messages-same _ _ c.self.view_is))
