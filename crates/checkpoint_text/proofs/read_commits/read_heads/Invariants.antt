use Rattle.std.proofs.Common.{length}
use Rattle.checkpoint_text.proofs.read_commits.read_heads.Given as goal

-- the bytes that are left
abbrev pub decreases-loop-after : goal.decreases-loop-after
decreases-loop-after l = length l.rest
