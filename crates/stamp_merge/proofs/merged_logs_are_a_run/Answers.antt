use Rattle.stamp_merge.proofs.Laws.Running.{merged_logs_run}
use Rattle.stamp_merge.proofs.merged_logs_are_a_run.Goals as goal

pub returns : goal.returns
returns c = merged_logs_run
