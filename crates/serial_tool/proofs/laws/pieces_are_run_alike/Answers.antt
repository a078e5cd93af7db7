use Rattle.serial_tool.proofs.Running.{piece-faults-alike, piece-faults-have-no-run}
use Rattle.serial_tool.proofs.laws.pieces_are_run_alike.Goals as goal

pub returns-clause-one_fault : goal.returns-clause-one_fault
returns-clause-one_fault c = piece-faults-alike

pub returns-clause-not_both : goal.returns-clause-not_both
returns-clause-not_both c = piece-faults-have-no-run
