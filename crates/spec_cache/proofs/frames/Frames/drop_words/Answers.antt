use Rattle.std.proofs.Common.{sym}
use Rattle.spec_cache.proofs.Calls.{nothing_dropped, fits_dropped, dropped_maps}
use Rattle.spec_cache.proofs.frames.Frames.drop_words.Goals as goal

pub put-requires-clause-fits : goal.put-requires-clause-fits
put-requires-clause-fits g c =
    fits_dropped (g.Self.Ways.held c.args.self.now) c.find.ensures.in_order c.args.line.0
    (c.in-Some.at, c.in-Some.frame) c.in-Some.ensures.found _ c.args.mask.0 c.drop_words.ensures

pub returns-in-Some-clause-maps : goal.returns-in-Some-clause-maps
returns-in-Some-clause-maps g c =
    dropped_maps (g.Self.Ways.held c.args.self.now) c.find.ensures.in_order c.args.line.0
    (c.in-Some.at, c.in-Some.frame) c.in-Some.ensures.found _ _ c.put.ensures c.args.mask.0 c.drop_words.ensures

pub returns-in_default-clause-maps : goal.returns-in_default-clause-maps
returns-in_default-clause-maps g c =
    sym (nothing_dropped (g.Self.Ways.held c.args.self.now) c.args.line.0 c.in_default.ensures.found c.args.mask.0)
