use Rattle.std.proofs.Common.{◌∙◌, ap, sym}
use Rattle.tcc_msg.specs.Held.{held}
use Rattle.tcc_msg.proofs.Names.{held-is, messages-same}
use Rattle.tcc_msg.proofs.pool.Pool.at.Goals as goal

pub returns-clause-own : goal.returns-clause-own
returns-clause-own g c =
    ap (λ es. held es c.in_ok-name.name.now) (sym (messages-same _ _ c.self.view_is))
    ∙ (sym (held-is c.self.inside.arrived.entries c.in_ok-name.name.now) ∙ c.in_ok-name.ensures.value)
