-- What is left to read grows shorter.
use Rattle.std.proofs.Common.{length}
use Rattle.count_rows.proofs.reading.read_conflicts.Given as goal

abbrev pub decreases-loop-conflict : goal.decreases-loop-conflict
decreases-loop-conflict l = length l.rest
