use Rattle.std.proofs.Common.{◌≡◌, length}
use Rattle.checkpoint_text.proofs.read_messages.read_flying.Given as goal

-- the program stays
abbrev pub invariant-loop-place : goal.invariant-loop-place
invariant-loop-place l = l.parts.cores.code ≡ l.fn.parts.cores.code

-- the bytes that are left
abbrev pub decreases-loop-place : goal.decreases-loop-place
decreases-loop-place l = length l.rest
