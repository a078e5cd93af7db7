-- There are as many cores as before.
use Rattle.std.proofs.Common.{◌≡◌, length}
use Rattle.count_rows.proofs.reading.read_table.Given as goal

abbrev pub invariant-loop-k : goal.invariant-loop-k
invariant-loop-k l = length l.cores ≡ length l.fn.cores
