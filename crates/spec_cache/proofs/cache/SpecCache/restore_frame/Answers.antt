use Rattle.std.proofs.Common.{sym}
use Rattle.spec_cache.proofs.Standing.{fits_way}
use Rattle.spec_cache.proofs.cache.SpecCache.restore_frame.Goals as goal

pub put-requires-clause-fits : goal.put-requires-clause-fits
put-requires-clause-fits c =
    fits_way c.self.inside.frames c.place_of_way-at.ensures.in_order c.args.set c.args.way c.args.frame.now
    (rw (sym c.self.view_is) at (c.may_stand.ensures.0 c.if-not-may_stand.false)) c.place_of_way-at.result c.place_of_way-at.ensures.value
