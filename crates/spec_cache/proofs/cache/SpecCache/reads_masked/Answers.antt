use Rattle.std.proofs.Common.{refl, sym}
use Rattle.spec_cache.proofs.Handed.{nothing_read, read_hits}
use Rattle.spec_cache.proofs.cache.SpecCache.reads_masked.Goals as goal

pub returns-in-None : goal.returns-in-None
returns-in-None c = rw (sym c.self.view_is) (nothing_read c.self.inside.frames c.args.line.0 c.in-None.ensures.found c.args.mask.0)

pub returns-in-Some : goal.returns-in-Some
returns-in-Some c =
    rw (sym c.self.view_is) (read_hits c.self.inside.frames c.find.ensures.in_order c.args.line.0 (c.in-Some.field-0-0, c.in-Some.frame)
    c.in-Some.ensures.found c.args.mask.0 _ refl)
