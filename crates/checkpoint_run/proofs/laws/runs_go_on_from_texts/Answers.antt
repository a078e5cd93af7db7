use Rattle.checkpoint_run.proofs.SameRuns.{runs-go-on}
use Rattle.checkpoint_run.proofs.laws.runs_go_on_from_texts.Goals as goal

pub returns : goal.returns
returns c = runs-go-on
