use Rattle.theorem_phases.proofs.Running.Runs.{phased_runs_are_runs}
use Rattle.theorem_phases.proofs.phased_runs_are_runs.Goals as goal

pub returns : goal.returns
returns c = record { runs = phased_runs_are_runs }
