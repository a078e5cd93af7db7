-- Of each core so far nothing is kept.
use Rattle.std.proofs.Common.{◌≡◌, replicate}
use Rattle.watch_count.specs.KeptCores.{nothing_kept}
use Rattle.watch_count.proofs.counts.Counts.new.Given as goal

abbrev pub invariant-loop : goal.invariant-loop
invariant-loop l = l.cores.items ≡ replicate l.counter nothing_kept
