use Rattle.theorem_live.proofs.Stuck.{each_core_goes_on}
use Rattle.theorem_live.proofs.each_core_goes_on.Goals as goal

pub returns : goal.returns
returns c = record { goes_on = each_core_goes_on }
