use Rattle.std.proofs.Common.{sym, refl}
use Rattle.spec_cache.proofs.Calls.{nothing_invalid, fits_invalidated, invalidated_maps}
use Rattle.spec_cache.proofs.Handed.{nothing_read, nothing_kept, read_hits, kept_then}
use Rattle.spec_cache.proofs.frames.Frames.invalidate.Goals as goal

pub returns-in_default-clause-maps : goal.returns-in_default-clause-maps
returns-in_default-clause-maps g c =
    sym (nothing_invalid (g.Self.Ways.held c.args.self.now) c.args.line.0 c.in_default.ensures.found c.args.mask.0)

pub returns-in_default-clause-read_hit : goal.returns-in_default-clause-read_hit
returns-in_default-clause-read_hit g c =
    nothing_read (g.Self.Ways.held c.args.self.now) c.args.line.0 c.in_default.ensures.found c.args.mask.0

pub returns-in_default-clause-keeps : goal.returns-in_default-clause-keeps
returns-in_default-clause-keeps g c = nothing_kept (g.Self.Ways.held c.args.self.now) c.args.line.0 c.in_default.ensures.found

pub put-requires-clause-fits : goal.put-requires-clause-fits
put-requires-clause-fits g c = fits_invalidated (g.Self.Ways.held c.args.self.now) c.find.ensures.in_order c.args.line.0
    (c.in-Some.at, c.in-Some.frame) c.in-Some.ensures.found _ c.args.mask.0 c.invalidate.ensures

pub returns-clause-maps : goal.returns-clause-maps
returns-clause-maps g c = invalidated_maps (g.Self.Ways.held c.args.self.now) c.find.ensures.in_order c.args.line.0
    (c.in-Some.at, c.in-Some.frame) c.in-Some.ensures.found _ _ c.put.ensures c.args.mask.0 c.invalidate.ensures

pub returns-clause-read_hit : goal.returns-clause-read_hit
returns-clause-read_hit g c = read_hits (g.Self.Ways.held c.args.self.now) c.find.ensures.in_order c.args.line.0
    (c.in-Some.at, c.in-Some.frame) c.in-Some.ensures.found c.args.mask.0 _ refl

pub returns-clause-keeps : goal.returns-clause-keeps
returns-clause-keeps g c = kept_then (g.Self.Ways.held c.args.self.now) c.find.ensures.in_order c.args.line.0
    (c.in-Some.at, c.in-Some.frame) c.in-Some.ensures.found c.args.mask.0 _ _ c.invalidate.ensures c.put.ensures _ refl
