-- The list of the entry's key is longer by it.
use Rattle.std.proofs.Common.{◌≡◌, ◌%◌, sym, subst}
use Rattle.std.specs.Prelude.{OnErr, OnOk, slice_set}
use Rattle.machine_links.specs.Subject.{IsListed, with_entry}
use Rattle.machine_links.proofs.Listed.{add-is, add-keeps, add-lists, add-none}
use Rattle.machine_links.proofs.index.Index.add.Goals as goal

pub returns-clause-is : goal.returns-clause-is
returns-clause-is c =
    let at = c.args.entry.key % 4096 in
    subst (λ x. OnOk c.push.result (slice_set c.self.inside.lists.items at c.push.new.self ≡ with_entry c.args.entry x)) c.self.view_is
    (add-is c.self.inside.lists.items c.args.entry c.index_mut.result.now c.push.new.self c.self.invariant c.index_mut.ensures.value
    c.push.result c.push.ensures)

pub returns-clause-listed : goal.returns-clause-listed
returns-clause-listed c =
    add-lists c.self.inside.lists.items c.args.entry c.index_mut.result.now c.push.new.self c.self.invariant c.index_mut.ensures.value
    c.push.result c.push.ensures

pub returns-clause-others : goal.returns-clause-others
returns-clause-others c = λ e listed.
    add-keeps c.self.inside.lists.items c.args.entry c.index_mut.result.now c.push.new.self c.self.invariant c.index_mut.ensures.value
    c.push.result e c.push.ensures (subst (λ x. IsListed x e) (sym c.self.view_is) listed)

pub returns-clause-unchanged : goal.returns-clause-unchanged
returns-clause-unchanged c =
    let at = c.args.entry.key % 4096 in
    subst (λ x. OnErr c.push.result (slice_set c.self.inside.lists.items at c.push.new.self ≡ x)) c.self.view_is
    (add-none c.self.inside.lists.items c.args.entry c.index_mut.result.now c.push.new.self c.self.invariant c.index_mut.ensures.value
    c.push.result c.push.ensures)
