use Rattle.rules_tcc.proofs.Acts.{step-acts}
use Rattle.rules_tcc.proofs.an_event_acts_on_one_node.Goals as goal

pub returns : goal.returns
returns c = step-acts
