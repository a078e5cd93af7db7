use Rattle.std.proofs.Common.{sym}
use Rattle.spec_cache.proofs.Handed.{nothing_kept}
use Rattle.spec_cache.proofs.Counts.{keeps_here}
use Rattle.spec_cache.proofs.cache.SpecCache.keeps.Goals as goal

pub returns-in-None : goal.returns-in-None
returns-in-None c = rw (sym c.self.view_is) (nothing_kept c.self.inside.frames c.args.line.0 c.in-None.ensures.found)

pub returns-in-Some : goal.returns-in-Some
returns-in-Some c =
    rw (sym c.self.view_is) (keeps_here c.self.inside.frames c.find.ensures.in_order c.args.line.0
    (c.in-Some.field-0-0, c.in-Some.frame) c.in-Some.ensures.found)
