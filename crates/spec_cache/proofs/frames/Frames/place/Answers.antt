use Rattle.spec_cache.proofs.Placing.{absent_line, placed_none, fits_empty, placed_some}
use Rattle.spec_cache.proofs.frames.Frames.place.Goals as goal

pub returns-in_default-clause-maps : goal.returns-in_default-clause-maps
returns-in_default-clause-maps g c =
    placed_none (g.Self.Ways.held c.args.self.now) c.set_of_line-set.ensures.in_order c.args.line.0 c.set_of_line-set.result
    c.set_of_line-set.ensures.value c.in_default.ensures.value

pub put-requires-clause-fits : goal.put-requires-clause-fits
put-requires-clause-fits g c =
    fits_empty (g.Self.Ways.held c.args.self.now) c.set_of_line-set.ensures.in_order c.args.line.0 c.set_of_line-set.result
    c.set_of_line-set.ensures.value c.in-Some.way c.in-Some.ensures.value c.in-Some.ensures.exists c.place_of_way-at.result
    c.place_of_way-at.ensures.value (absent_line (g.Self.Ways.held c.args.self.now) c.args.line.0 c.requires.absent) c.empty.result
    c.empty.ensures c.requires.exists

pub returns-clause-maps : goal.returns-clause-maps
returns-clause-maps g c =
    placed_some (g.Self.Ways.held c.args.self.now) c.set_of_line-set.ensures.in_order c.args.line.0 c.set_of_line-set.result
    c.set_of_line-set.ensures.value c.in-Some.way c.in-Some.ensures.value c.in-Some.ensures.exists c.place_of_way-at.result
    c.place_of_way-at.ensures.value (absent_line (g.Self.Ways.held c.args.self.now) c.args.line.0 c.requires.absent) c.empty.result
    c.empty.ensures c.place_of_way-at.ensures.inside _ c.put.ensures
