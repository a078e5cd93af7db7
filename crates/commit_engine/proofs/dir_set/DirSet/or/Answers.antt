use Rattle.commit_engine.proofs.Bits.{has-or}
use Rattle.commit_engine.proofs.dir_set.DirSet.or.Goals as goal

pub returns : goal.returns
returns c = λ i d. (has-or c.args.self.bits c.args.other.bits d) i
