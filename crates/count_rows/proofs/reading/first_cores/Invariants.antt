-- There are as many cores as steps so far.
use Rattle.std.proofs.Common.{◌≡◌, length}
use Rattle.count_rows.proofs.reading.first_cores.Given as goal

abbrev pub invariant-loop : goal.invariant-loop
invariant-loop l = length l.counts ≡ l.counter
