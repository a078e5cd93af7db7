use Rattle.std.proofs.Common.{◌≡◌, Some, None, [], ◌∷◌, ◌++◌, ◌∙◌, ap, if◌then◌else◌}
use Rattle.std.specs.Map.{lookup}
use Rattle.indexmap.proofs.CallerLemmas.{insert_entry-new}
use Rattle.tcc_msg.specs.contracts.event.NamePartialEq.TheImpl.{eq-value as name}
use Rattle.tcc_msg.specs.Held.{held, name_eq}
use Rattle.tcc_msg.proofs.Names.{held-is, held-updated, messages-same}
use Rattle.tcc_msg.proofs.pool.Pool.add_reserved.Goals as goal

pub returns-clause-order : goal.returns-clause-order
returns-clause-order g c =
    let es = c.self.inside.arrived.entries in
    let same = messages-same _ _ c.self.view_is in
    let absent : lookup (name.it c.args.name) es ≡ None =
    held-is es c.args.name ∙ (ap (λ ms. held ms c.args.name) same ∙ c.requires.new) in
    (rw c.unwrap.ensures at c.insert.ensures.entries)
    ∙ (insert_entry-new name.it c.self.inside.arrived c.args.name c.args.msg absent ∙ ap (λ ms. ms ++ (c.args.name, c.args.msg) ∷ []) same)

pub returns-clause-map : goal.returns-clause-map
returns-clause-map g c =
    held-updated c.self.inside.arrived.entries c.insert.new.self.entries c.args.name (Some c.args.msg)
    (rw c.unwrap.ensures at c.insert.ensures.updates).0
    ∙ ap (λ ms q. if name_eq c.args.name q then Some c.args.msg else held ms q) (messages-same _ _ c.self.view_is)
