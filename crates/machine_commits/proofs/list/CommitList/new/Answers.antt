use Rattle.machine_commits.specs.Rising.{Rising}
use Rattle.machine_commits.proofs.list.CommitList.new.Goals as goal

pub invariant_of-result : goal.invariant_of-result
unfolding Rising
invariant_of-result c = rw c.new.ensures.items tt
