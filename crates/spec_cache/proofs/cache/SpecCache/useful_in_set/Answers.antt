use Rattle.std.proofs.Common.{◌∙◌, sym}
use Rattle.spec_cache.specs.Useful.{wants_of}
use Rattle.spec_cache.proofs.UsefulSets.{plain-set, few-in_set}
use Rattle.spec_cache.proofs.cache.SpecCache.useful_in_set.Goals as goal

pub returns-else-touches-clause-number : goal.returns-else-touches-clause-number
returns-else-touches-clause-number c =
    rw c.self.view_is at c.useful_in_set.ensures.number
    ∙ plain-set c.args.self.now (rw c.self.view_is at c.useful_in_set.ensures.in_order) (wants_of c.args.wants) c.args.set
    (rw c.requires.line at (sym c.touches.ensures ∙ c.if-touches.false))

pub returns-else-touches-clause-few : goal.returns-else-touches-clause-few
returns-else-touches-clause-few c =
    rw (returns-else-touches-clause-number c)
    (few-in_set c.args.self.now (rw c.self.view_is at c.useful_in_set.ensures.in_order) (wants_of c.args.wants) c.args.set)
