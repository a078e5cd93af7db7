use Rattle.spec_cache.proofs.Calls.{fits_filled, filled_maps}
use Rattle.spec_cache.proofs.frames.Frames.fill.Goals as goal

pub put-requires-clause-fits : goal.put-requires-clause-fits
put-requires-clause-fits g c =
    fits_filled (g.Self.Ways.held c.args.self.now) c.seek-at.ensures.in_order c.args.line.0 c.seek-at.result c.seek-at.ensures.found _
    c.args.words.now c.fill.ensures

pub returns-clause-maps : goal.returns-clause-maps
returns-clause-maps g c =
    filled_maps (g.Self.Ways.held c.args.self.now) c.seek-at.ensures.in_order c.args.line.0 c.seek-at.result c.seek-at.ensures.found _ _
    c.put.ensures c.args.words.now c.fill.ensures
