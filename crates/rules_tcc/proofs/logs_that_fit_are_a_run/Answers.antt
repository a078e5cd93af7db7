use Rattle.rules_tcc.proofs.Merged.{merged-runs}
use Rattle.rules_tcc.proofs.logs_that_fit_are_a_run.Goals as goal

pub returns : goal.returns
returns c = merged-runs
