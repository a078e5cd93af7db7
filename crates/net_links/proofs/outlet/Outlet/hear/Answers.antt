use Rattle.net_links.proofs.Moves.{hears}
use Rattle.net_links.proofs.outlet.Outlet.hear.Goals as goal

pub absorb-requires-clause-rule : goal.absorb-requires-clause-rule
absorb-requires-clause-rule g c = hears _ _ _ _
