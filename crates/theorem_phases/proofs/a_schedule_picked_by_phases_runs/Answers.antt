use Rattle.theorem_phases.proofs.Running.Chosen.{a_schedule_picked_by_phases_runs}
use Rattle.theorem_phases.proofs.a_schedule_picked_by_phases_runs.Goals as goal

pub returns : goal.returns
returns c = record { runs = a_schedule_picked_by_phases_runs }
