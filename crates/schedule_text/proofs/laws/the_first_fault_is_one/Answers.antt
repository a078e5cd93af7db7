use Rattle.schedule_text.proofs.FirstLines.{first_is_one}
use Rattle.schedule_text.proofs.laws.the_first_fault_is_one.Goals as goal

pub returns-clause-one : goal.returns-clause-one
returns-clause-one c = first_is_one
