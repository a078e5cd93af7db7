-- What was sent is put on its links.
use Rattle.std.proofs.Common.{ap, ◌∙◌}
use Rattle.net_core.specs.Inside.{machine_of}
use Rattle.net_core.specs.Machine.{history_of}
use Rattle.net_core.proofs.Links.Settling.{flown-history, flown-whole, unsent-may-go}
use Rattle.net_core.proofs.system.System.place.Goals as goal

pub place_all-requires-clause-go : goal.place_all-requires-clause-go
place_all-requires-clause-go c = unsent-may-go (machine_of c.self.inside) c.self.invariant

pub invariant_of-self : goal.invariant_of-self
invariant_of-self c =
    flown-whole (machine_of c.self.inside) _ _ c.self.invariant c.place_all.ensures.net c.place_all.ensures.cores c.place_all.ensures.dirs
    c.place_all.ensures.marked

pub returns-clause-history : goal.returns-clause-history
returns-clause-history c =
    flown-history (machine_of c.self.inside) _ _ c.place_all.ensures.net ∙ ap history_of c.self.view_is
