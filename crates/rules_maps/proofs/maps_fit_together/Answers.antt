use Rattle.rules_maps.proofs.Uses.{nothing-left, hits-valid, spills-modified, marks-one_line}
use Rattle.rules_maps.proofs.maps_fit_together.Goals as goal

pub returns-clause-nothing_left : goal.returns-clause-nothing_left
returns-clause-nothing_left c = nothing-left

pub returns-clause-hits : goal.returns-clause-hits
returns-clause-hits c = hits-valid

pub returns-clause-spills : goal.returns-clause-spills
returns-clause-spills c = spills-modified

pub returns-clause-marks : goal.returns-clause-marks
returns-clause-marks c = marks-one_line
