use Rattle.stamp_merge.proofs.Laws.Unique.{merge-one}
use Rattle.stamp_merge.proofs.a_merge_is_one.Goals as goal

pub returns : goal.returns
returns c = merge-one
