use Rattle.std.proofs.Common.{sym}
use Rattle.spec_cache.proofs.Counts.{way_none, way_here}
use Rattle.spec_cache.proofs.cache.SpecCache.way.Goals as goal

pub returns-in-None : goal.returns-in-None
returns-in-None c =
    rw (sym c.self.view_is) (way_none c.self.inside.frames c.args.set c.args.way (rw (sym c.self.view_is) at c.requires.way_exists)
    c.place_of_way.result c.place_of_way.ensures.value c.in-None.ensures.value)

pub returns-in-Some : goal.returns-in-Some
returns-in-Some c =
    rw (sym c.self.view_is) (way_here c.self.inside.frames c.args.set c.args.way (rw (sym c.self.view_is) at c.requires.way_exists)
    c.place_of_way.result c.place_of_way.ensures.value c.place_of_way.ensures.in_order c.in-Some.frame c.in-Some.ensures.value
    c.is_marked.result c.is_marked.ensures)
