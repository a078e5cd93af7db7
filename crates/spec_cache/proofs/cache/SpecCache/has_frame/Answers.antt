use Rattle.std.proofs.Common.{sym}
use Rattle.spec_cache.proofs.Counts.{held_as_found}
use Rattle.spec_cache.proofs.cache.SpecCache.has_frame.Goals as goal

pub returns : goal.returns
returns c =
    rw (sym c.self.view_is) (held_as_found c.self.inside.frames c.find.ensures.in_order c.args.line.0 c.find.result c.find.ensures.found
    c.is_some.result c.is_some.ensures)
