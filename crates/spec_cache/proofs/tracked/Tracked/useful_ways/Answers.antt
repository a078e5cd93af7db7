use Rattle.std.proofs.Common.{◌∙◌, sym}
use Rattle.spec_cache.specs.Tracked.{count_ways}
use Rattle.spec_cache.proofs.tracked.Tracked.useful_ways.Goals as goal

pub returns-then-alone : goal.returns-then-alone
unfolding count_ways
returns-then-alone c = rw (c.if-alone.true, sym c.self.view_is) (c.all.ensures ∙ c.self.invariant.used.all)

pub returns-else-alone : goal.returns-else-alone
unfolding count_ways
returns-else-alone c = rw (c.if-alone.false, sym c.self.view_is) (c.all-else-alone.ensures ∙ c.self.invariant.idle.all)
