use Rattle.net_links.proofs.Moves.{begins, parts}
use Rattle.net_links.proofs.wire.between.Goals as goal

pub with_rule-requires : goal.with_rule-requires
with_rule-requires g c = begins

pub another-reader-requires-clause-rule : goal.another-reader-requires-clause-rule
another-reader-requires-clause-rule g c = parts _ _ _ c.in-Ok.ensures.2
