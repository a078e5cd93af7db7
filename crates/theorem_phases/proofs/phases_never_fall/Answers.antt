use Rattle.theorem_phases.proofs.Running.NeverFall.{phases_never_fall}
use Rattle.theorem_phases.proofs.phases_never_fall.Goals as goal

pub returns : goal.returns
returns c = record { fall = phases_never_fall }
