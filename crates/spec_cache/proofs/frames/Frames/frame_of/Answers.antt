use Rattle.spec_cache.proofs.Consistent.{IsCache-maps}
use Rattle.spec_cache.proofs.Looks.{not_held}
use Rattle.spec_cache.proofs.Handed.{line_view}
use Rattle.spec_cache.proofs.frames.Frames.frame_of.Goals as goal

pub returns-in-None-clause-view : goal.returns-in-None-clause-view
returns-in-None-clause-view g c = not_held (g.Self.Ways.held c.args.self.now) c.args.line.0 c.in-None.ensures.found

pub returns-in-None-clause-consistent : goal.returns-in-None-clause-consistent
returns-in-None-clause-consistent g c = IsCache-maps (g.Self.Ways.held c.args.self.now) c.find.ensures.in_order

pub returns-in-Some-clause-view : goal.returns-in-Some-clause-view
returns-in-Some-clause-view g c = line_view (g.Self.Ways.held c.args.self.now) c.find.ensures.in_order c.args.line.0
    (c.in-Some.field-0-0, c.in-Some.frame) c.in-Some.ensures.found

pub returns-in-Some-clause-consistent : goal.returns-in-Some-clause-consistent
returns-in-Some-clause-consistent g c = IsCache-maps (g.Self.Ways.held c.args.self.now) c.find.ensures.in_order
