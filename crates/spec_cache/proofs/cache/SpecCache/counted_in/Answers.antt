use Rattle.spec_cache.proofs.UsefulCount.{kept-few}
use Rattle.spec_cache.proofs.cache.SpecCache.counted_in.Goals as goal

pub returns-in-Some-clause-few : goal.returns-in-Some-clause-few
returns-in-Some-clause-few c =
    rw c.useful_in_set.ensures.number (kept-few c.self.inside.frames c.useful_in_set.ensures.in_order c.args.alone c.in-Some.set)
