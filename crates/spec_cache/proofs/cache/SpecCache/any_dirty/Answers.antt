use Rattle.std.proofs.Common.{sym}
use Rattle.spec_cache.specs.Tracked.{count_ways}
use Rattle.spec_cache.proofs.Counts.{dirty_counted}
use Rattle.spec_cache.proofs.cache.SpecCache.any_dirty.Goals as goal

pub returns : goal.returns
returns c =
    rw (sym c.self.view_is) (dirty_counted c.self.inside.frames c.dirty_count.ensures.in_order c.dirty_count.result
    (unfold count_ways in c.dirty_count.ensures.number))
