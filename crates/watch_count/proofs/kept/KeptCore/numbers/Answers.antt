-- The events that are added are a part of the size.
use Rattle.std.proofs.Common.{◌-◌, arith}
use Rattle.watch_count.specs.KeptCores.{numbers_after}
use Rattle.watch_count.proofs.Staying.{stayed-size}
use Rattle.watch_count.proofs.kept.KeptCore.numbers.Goals as goal

pub stay-requires : goal.stay-requires
unfolding numbers_after
stay-requires c =
    let k = c.args.self.now in
    let size = stayed-size (c.args.events - k.since) k.counts.phase k.counts.phases in
    omega (arith, c.requires, size, c.saturating_sub.ensures)
