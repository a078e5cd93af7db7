use Rattle.net_links.proofs.Moves.{acknowledges}
use Rattle.net_links.proofs.inlet.Inlet.receipt.Goals as goal

pub another-requires-clause-rule : goal.another-requires-clause-rule
another-requires-clause-rule c = acknowledges _ _ c.self.invariant.1
