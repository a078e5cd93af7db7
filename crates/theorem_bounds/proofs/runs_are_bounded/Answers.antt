use Rattle.theorem_bounds.proofs.Bounded.{runs_are_bounded}
use Rattle.theorem_bounds.proofs.runs_are_bounded.Goals as goal

pub returns : goal.returns
returns c = record { bounded = runs_are_bounded }
