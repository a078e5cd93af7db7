-- What is left to read grows shorter.
use Rattle.std.proofs.Common.{length}
use Rattle.checkpoint_text.proofs.read_cores.read_load_table.Given as goal

abbrev pub decreases-loop-k : goal.decreases-loop-k
decreases-loop-k l = length l.rest
