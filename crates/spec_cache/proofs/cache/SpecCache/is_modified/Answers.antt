use Rattle.std.proofs.Common.{sym}
use Rattle.spec_cache.proofs.Counts.{modified_none, modified_here}
use Rattle.spec_cache.proofs.cache.SpecCache.is_modified.Goals as goal

pub returns-in-None : goal.returns-in-None
returns-in-None c =
    rw (sym c.self.view_is) (modified_none c.self.inside.frames c.line_of_word.result.0 c.args.w.0 c.line_of_word.ensures
    c.in-None.ensures.found)

pub returns-in-Some : goal.returns-in-Some
returns-in-Some c =
    rw (sym c.self.view_is) (modified_here c.self.inside.frames c.find.ensures.in_order c.line_of_word.result.0
    (c.in-Some.field-0-0, c.in-Some.frame)
    c.in-Some.ensures.found c.args.w.0 c.line_of_word.ensures c.place_of_word.result c.place_of_word.ensures c.has.result c.has.ensures)
