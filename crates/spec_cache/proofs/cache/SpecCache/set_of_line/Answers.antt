use Rattle.std.proofs.Common.{sym}
use Rattle.spec_cache.proofs.Consistent.{IsCache-maps}
use Rattle.spec_cache.proofs.cache.SpecCache.set_of_line.Goals as goal

pub returns-clause-consistent : goal.returns-clause-consistent
returns-clause-consistent c = rw (sym c.self.view_is) (IsCache-maps c.self.inside.frames c.set_of_line.ensures.in_order)
