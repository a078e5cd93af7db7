use Rattle.commit_engine.proofs.Bits.{has-minus}
use Rattle.commit_engine.proofs.dir_set.DirSet.minus.Goals as goal

pub returns : goal.returns
returns c = λ i d. (has-minus c.args.self.bits c.args.other.bits d) i
