-- What comes back is what was taken.
use Rattle.std.proofs.Common.{sym, subst}
use Rattle.node_locks.specs.Wiring.{AreOf}
use Rattle.node_locks.proofs.farm.Farm.close.Goals as goal

pub put_down-desks-requires-clause-are : goal.put_down-desks-requires-clause-are
put_down-desks-requires-clause-are g c =
    subst (λ l. AreOf g.W.Setup.code g.W.Setup.link l) (sym c.in-Err.ensures.nodes) c.take_up-nodes.ensures.are
