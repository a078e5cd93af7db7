use Rattle.rules_maps.proofs.Judge.{judge-waits, judge-takes}
use Rattle.rules_maps.proofs.judgement_is_exact.Goals as goal

pub returns-clause-waits : goal.returns-clause-waits
returns-clause-waits c = judge-waits

pub returns-clause-takes : goal.returns-clause-takes
returns-clause-takes c = judge-takes
