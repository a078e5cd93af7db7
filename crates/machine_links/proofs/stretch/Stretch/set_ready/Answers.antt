-- The mark of what was found is changed, and counted.
use Rattle.std.proofs.Common.{◌≡◌, get_or, set, sym, subst, ◌∙◌, arith}
use Rattle.std.proofs.lemmas.List.{with_items_is}
use Rattle.std.specs.Vec.{with_items}
use Rattle.machine_links.specs.Pieces.{AreRising}
use Rattle.machine_links.proofs.Pieces.{blank}
use Rattle.machine_links.proofs.Passing.{order, counted-at, counted-mark}
use Rattle.machine_links.proofs.stretch.Stretch.set_ready.Goals as goal

pub find-requires : goal.find-requires
find-requires c = rw c.deref.ensures.value (order c.self.inside.waiting.items (subst AreRising (sym c.self.view_is) c.requires))

pub recount-requires-clause-counted : goal.recount-requires-clause-counted
recount-requires-clause-counted c =
    counted-at c.self.inside.waiting.items c.in_ok-at.at c.mark-was.result c.self.inside.marked
    (rw c.deref.ensures.value at c.in_ok-at.ensures.within) (rw c.as_mut_slice.ensures.value at (c.mark-was.ensures.was blank))
    c.self.invariant

pub invariant_of-self : goal.invariant_of-self
invariant_of-self c =
    let ws = c.self.inside.waiting.items in
    let w = get_or ws c.in_ok-at.at blank in
    let items : (with_items c.self.inside.waiting c.mark-was.new.waiting).items
    ≡ set ws c.in_ok-at.at (record w { held = record w.held { ready = c.args.ready } })
    = with_items_is c.self.inside.waiting c.mark-was.new.waiting (omega (arith, c.mark-was.auto.waiting, c.as_mut_slice.ensures.len))
    ∙ rw c.as_mut_slice.ensures.value at (c.mark-was.ensures.now blank) in
    counted-mark ws _ c.in_ok-at.at c.args.ready c.mark-was.result c.self.inside.marked _
    (rw c.deref.ensures.value at c.in_ok-at.ensures.within) (rw c.as_mut_slice.ensures.value at (c.mark-was.ensures.was blank)) items
    c.self.invariant c.recount.ensures
