use Rattle.serial_tool.proofs.Running.{faults-have-no-run, run-faults-alike}
use Rattle.serial_tool.proofs.laws.lists_are_run_alike.Goals as goal

pub returns-clause-one_fault : goal.returns-clause-one_fault
returns-clause-one_fault c = run-faults-alike

pub returns-clause-not_both : goal.returns-clause-not_both
returns-clause-not_both c = faults-have-no-run
