-- What is left to read grows shorter.
use Rattle.std.proofs.Common.{length}
use Rattle.count_rows.proofs.reading.read_lines.Given as goal

abbrev pub decreases-loop-line : goal.decreases-loop-line
decreases-loop-line l = length l.rest
