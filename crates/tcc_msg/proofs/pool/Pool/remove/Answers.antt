use Rattle.std.proofs.Common.{None, ◌∙◌, ap, if◌then◌else◌}
use Rattle.indexmap.specs.IndexMap.{swap_remove_entry}
use Rattle.tcc_msg.specs.Held.{held, name_eq}
use Rattle.tcc_msg.proofs.Names.{held-is, held-updated, eq-name_eq, messages-same}
use Rattle.tcc_msg.proofs.pool.Pool.remove.Goals as goal

pub returns-clause-given : goal.returns-clause-given
returns-clause-given g c =
    c.swap_remove.ensures.value
    ∙ (held-is c.self.inside.arrived.entries c.args.name ∙ ap (λ es. held es c.args.name) (messages-same _ _ c.self.view_is))

pub returns-clause-map : goal.returns-clause-map
returns-clause-map g c =
    held-updated c.self.inside.arrived.entries c.swap_remove.new.self.entries c.args.name None c.swap_remove.ensures.updates.0
    ∙ ap (λ es q. if name_eq c.args.name q then None else held es q) (messages-same _ _ c.self.view_is)

pub returns-clause-order : goal.returns-clause-order
returns-clause-order g c =
    c.swap_remove.ensures.entries
    ∙ (λ i. swap_remove_entry (λ q. eq-name_eq c.args.name q i) (messages-same _ _ c.self.view_is i))
