use Rattle.net_links.proofs.Moves.{takes}
use Rattle.net_links.proofs.inlet.Inlet.pop.Goals as goal

pub pop_as-requires-clause-rule : goal.pop_as-requires-clause-rule
pop_as-requires-clause-rule g c = (takes _ _ c.self.invariant.1, λ items views h at. tt)
