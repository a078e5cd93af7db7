-- What is picked from where the merged events lead is a run.
use Rattle.apart_run.proofs.Joining.{joined-runs}
use Rattle.apart_run.proofs.laws.joined_schedules_are_runs.Goals as goal

pub returns : goal.returns
returns c = joined-runs
