use Rattle.std.proofs.Common.{sym}
use Rattle.spec_cache.specs.Tracked.{count_ways}
use Rattle.spec_cache.proofs.Counts.{write_counted}
use Rattle.spec_cache.proofs.cache.SpecCache.write_count.Goals as goal

pub returns : goal.returns
returns c =
    rw (sym c.self.view_is) (write_counted c.self.inside.frames c.write_count.ensures.in_order c.args.d.0 c.write_count.result
    (unfold count_ways in c.write_count.ensures.number))
