use Rattle.std.proofs.Common.{refl}
use Rattle.rules_tcc.specs.CoreDeliver.{if_violated}
use Rattle.core_node.proofs.Steps.{did_silently}
use Rattle.core_node.proofs.messages.answer_violation.Goals as goal

pub returns-else-violated-clause-does : goal.returns-else-violated-clause-does
unfolding if_violated
returns-else-violated-clause-does c = rw c.if-violated.false (did_silently _ _ _ _ refl)
