-- What was found is the message of that number.
use Rattle.std.proofs.Common.{sym, subst, ◌≡◌, Some}
use Rattle.machine_links.specs.Laid.{held_at}
use Rattle.machine_links.specs.Pieces.{AreRising}
use Rattle.machine_links.proofs.Passing.{order, found-at}
use Rattle.machine_links.proofs.stretch.Stretch.get.Goals as goal

pub find-requires : goal.find-requires
find-requires c = rw c.deref.ensures.value (order c.self.inside.waiting.items (subst AreRising (sym c.self.view_is) c.requires))

pub returns : goal.returns
returns c = subst (λ ws. Some c.index.result.now.held ≡ held_at ws c.args.seq) c.self.view_is
    (found-at c.self.inside.waiting.items c.args.seq c.in_ok-at.at c.index.result.now (subst AreRising (sym c.self.view_is) c.requires)
    (rw c.deref.ensures.value at c.in_ok-at.ensures.within) (rw c.deref.ensures.value at c.in_ok-at.ensures.found) c.index.ensures)
