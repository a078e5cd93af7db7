use Rattle.checkpoint_run.proofs.SameRuns.{runs-same}
use Rattle.checkpoint_run.proofs.laws.texts_tell_runs_apart.Goals as goal

pub returns : goal.returns
returns c = runs-same
