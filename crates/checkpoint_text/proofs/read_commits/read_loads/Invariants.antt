use Rattle.std.proofs.Common.{length}
use Rattle.checkpoint_text.proofs.read_commits.read_loads.Given as goal

-- the bytes that are left
abbrev pub decreases-loop-k : goal.decreases-loop-k
decreases-loop-k l = length l.rest
