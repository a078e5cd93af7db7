use Rattle.spec_cache.proofs.Consistent.{IsCache-maps}
use Rattle.spec_cache.proofs.Handed.{way_view}
use Rattle.spec_cache.proofs.frames.Frames.frame.Goals as goal

pub returns-clause-view : goal.returns-clause-view
returns-clause-view g c =
    way_view (g.Self.Ways.held c.args.self.now) c.place_of_way.ensures.in_order c.args.set c.args.way c.requires.way_exists
    c.place_of_way.result c.place_of_way.ensures.value c.way.result c.way.ensures.value

pub returns-clause-consistent : goal.returns-clause-consistent
returns-clause-consistent g c = IsCache-maps (g.Self.Ways.held c.args.self.now) c.place_of_way.ensures.in_order
