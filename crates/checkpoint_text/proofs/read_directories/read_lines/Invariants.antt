use Rattle.std.proofs.Common.{◌≡◌, length}
use Rattle.checkpoint_text.proofs.read_directories.read_lines.Given as goal

-- the program stays
abbrev pub invariant-loop-after : goal.invariant-loop-after
invariant-loop-after l = l.parts.cores.code ≡ l.fn.parts.cores.code

-- the bytes that are left
abbrev pub decreases-loop-after : goal.decreases-loop-after
decreases-loop-after l = length l.rest
