use Rattle.std.proofs.Common.{sym}
use Rattle.spec_cache.proofs.Consistent.{IsCache-maps, held_exists}
use Rattle.spec_cache.proofs.cache.SpecCache.keeps_order.Goals as goal

pub returns-clause-consistent : goal.returns-clause-consistent
returns-clause-consistent c = rw (sym c.self.view_is) (IsCache-maps c.self.inside.frames c.config-config.ensures.in_order)

pub returns-clause-in_memory : goal.returns-clause-in_memory
returns-clause-in_memory c = rw (sym c.self.view_is) (held_exists c.self.inside.frames c.config-config.ensures.in_order)
