use Rattle.std.proofs.Common.{None}
use Rattle.spec_cache.proofs.HeldKept.{FitsWay-none}
use Rattle.spec_cache.proofs.Handed.{way_view, evicted_none, evicted_some, gives}
use Rattle.spec_cache.proofs.frames.Frames.evict.Goals as goal

pub returns-in_default-clause-maps : goal.returns-in_default-clause-maps
returns-in_default-clause-maps g c =
    evicted_none (g.Self.Ways.held c.args.self.now) c.place_of_way-at.ensures.in_order c.args.set c.args.way c.requires.way_exists
    c.place_of_way-at.result c.place_of_way-at.ensures.value c.in_default.ensures.value

pub returns-in_default-clause-out : goal.returns-in_default-clause-out
returns-in_default-clause-out g c =
    way_view (g.Self.Ways.held c.args.self.now) c.place_of_way-at.ensures.in_order c.args.set c.args.way c.requires.way_exists
    c.place_of_way-at.result c.place_of_way-at.ensures.value None c.in_default.ensures.value

pub put-requires-clause-fits : goal.put-requires-clause-fits
put-requires-clause-fits g c = FitsWay-none (g.Self.Ways.held c.args.self.now) c.place_of_way-at.ensures.in_order c.place_of_way-at.result

pub returns-clause-maps : goal.returns-clause-maps
returns-clause-maps g c =
    evicted_some (g.Self.Ways.held c.args.self.now) c.place_of_way-at.ensures.in_order c.args.set c.args.way c.requires.way_exists
    c.place_of_way-at.result c.place_of_way-at.ensures.value c.in-Some.frame c.in-Some.ensures.value _ c.put.ensures

pub returns-clause-out : goal.returns-clause-out
returns-clause-out g c =
    gives (g.Self.Ways.held c.args.self.now) c.place_of_way-at.ensures.in_order c.args.set c.args.way c.requires.way_exists
    c.place_of_way-at.result c.place_of_way-at.ensures.value c.in-Some.frame c.in-Some.ensures.value c.take_dirty.result
    c.take_dirty.ensures.part
