use Rattle.std.proofs.Common.{length}
use Rattle.checkpoint_text.proofs.read_directories.read_flags.Given as goal

-- the bytes that are left
abbrev pub decreases-loop-number : goal.decreases-loop-number
decreases-loop-number l = length l.rest
