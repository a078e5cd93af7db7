use Rattle.base_lemmas.proofs.Lemmas.{has-zero}
use Rattle.commit_engine.proofs.dir_set.DirSet.none.Goals as goal

pub returns : goal.returns
returns c = λ i d. (has-zero d) i
