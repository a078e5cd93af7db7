use Rattle.count_rows.proofs.Same.{counts-same}
use Rattle.count_rows.proofs.laws.texts_tell_counts_apart.Goals as goal

pub returns : goal.returns
returns c = counts-same
