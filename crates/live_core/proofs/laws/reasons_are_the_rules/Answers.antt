-- Rule by rule.
use Rattle.live_core.proofs.Rules.{reasons-are-rules}
use Rattle.live_core.proofs.laws.reasons_are_the_rules.Goals as goal

pub returns : goal.returns
returns c = reasons-are-rules
