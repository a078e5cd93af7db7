use Rattle.commit_engine.proofs.Bits.{bit_test}
use Rattle.commit_engine.proofs.dir_set.DirSet.contains.Goals as goal

pub returns : goal.returns
returns c = bit_test c.args.self.bits c.args.d.0
