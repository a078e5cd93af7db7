-- Two numbers below 2 to the 64 with the same bits are one.
use Rattle.watch_changes.proofs.Coded.{set-test}
use Rattle.watch_changes.proofs.same.is_set.Goals as goal

pub returns : goal.returns
returns c = set-test c.args.a c.args.b c.ranges.a.fits c.ranges.b.fits
