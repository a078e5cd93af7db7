use Rattle.rules_tcc.proofs.Tids.{tids-count}
use Rattle.rules_tcc.proofs.tids_count_from_one.Goals as goal

pub returns : goal.returns
returns c = tids-count
