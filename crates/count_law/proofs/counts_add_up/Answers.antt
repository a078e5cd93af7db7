use Rattle.count_law.proofs.Summed.{counts-add-up}
use Rattle.count_law.proofs.counts_add_up.Goals as goal

pub returns : goal.returns
returns c = counts-add-up
