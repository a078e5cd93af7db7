use Rattle.std.proofs.Common.{sym}
use Rattle.spec_cache.proofs.HeldKept.{IsHeld-set}
use Rattle.spec_cache.proofs.list_frames.ListFramesWays.put.Goals as goal

pub invariant_of-self : goal.invariant_of-self
invariant_of-self c =
    IsHeld-set _ c.self.invariant c.args.at c.args.frame (rw (sym c.self.view_is) at c.requires.inside)
    (rw (sym c.self.view_is) at c.requires.fits)
