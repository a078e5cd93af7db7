-- What was found is taken out.
use Rattle.std.proofs.Common.{sym, subst}
use Rattle.machine_links.specs.Pieces.{AreRising}
use Rattle.machine_links.proofs.Passing.{order}
use Rattle.machine_links.proofs.stretch.Stretch.discard.Goals as goal

pub find-requires : goal.find-requires
find-requires c = rw c.deref.ensures.value (order c.self.inside.waiting.items (subst AreRising (sym c.self.view_is) c.requires))
