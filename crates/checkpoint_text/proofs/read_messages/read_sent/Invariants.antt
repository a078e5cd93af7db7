use Rattle.std.proofs.Common.{◌≡◌}
use Rattle.checkpoint_text.proofs.read_messages.read_sent.Given as goal

-- the program stays
abbrev pub invariant-loop-place : goal.invariant-loop-place
invariant-loop-place l = l.parts.cores.code ≡ l.fn.parts.cores.code
