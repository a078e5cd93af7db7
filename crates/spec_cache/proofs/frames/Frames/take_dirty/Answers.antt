use Rattle.std.proofs.Common.{sym}
use Rattle.spec_cache.proofs.Calls.{nothing_cleaned, fits_cleaned, cleaned_maps}
use Rattle.spec_cache.proofs.Handed.{part_of, nothing_dirty}
use Rattle.spec_cache.proofs.frames.Frames.take_dirty.Goals as goal

pub returns-in_default-clause-maps : goal.returns-in_default-clause-maps
returns-in_default-clause-maps g c = sym (nothing_cleaned (g.Self.Ways.held c.args.self.now) c.args.line.0 c.in_default.ensures.found)

pub returns-in_default-clause-out : goal.returns-in_default-clause-out
returns-in_default-clause-out g c = nothing_dirty (g.Self.Ways.held c.args.self.now) c.args.line.0 c.in_default.ensures.found

pub put-requires-clause-fits : goal.put-requires-clause-fits
put-requires-clause-fits g c = fits_cleaned (g.Self.Ways.held c.args.self.now) c.find.ensures.in_order c.args.line.0
    (c.in-Some.at, c.in-Some.frame) c.in-Some.ensures.found _ c.take_dirty-out.ensures.frame

pub returns-clause-maps : goal.returns-clause-maps
returns-clause-maps g c = cleaned_maps (g.Self.Ways.held c.args.self.now) c.find.ensures.in_order c.args.line.0
    (c.in-Some.at, c.in-Some.frame) c.in-Some.ensures.found _ _ c.put.ensures c.take_dirty-out.ensures.frame

pub returns-clause-out : goal.returns-clause-out
returns-clause-out g c = part_of (g.Self.Ways.held c.args.self.now) c.find.ensures.in_order c.args.line.0
    (c.in-Some.at, c.in-Some.frame) c.in-Some.ensures.found c.take_dirty-out.result c.take_dirty-out.ensures.part
