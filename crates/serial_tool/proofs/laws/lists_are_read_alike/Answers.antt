use Rattle.serial_tool.proofs.Listing.{faults-alike, faults-have-no-list, lists-alike}
use Rattle.serial_tool.proofs.laws.lists_are_read_alike.Goals as goal

pub returns-clause-one : goal.returns-clause-one
returns-clause-one c = lists-alike

pub returns-clause-one_fault : goal.returns-clause-one_fault
returns-clause-one_fault c = faults-alike

pub returns-clause-not_both : goal.returns-clause-not_both
returns-clause-not_both c = faults-have-no-list
