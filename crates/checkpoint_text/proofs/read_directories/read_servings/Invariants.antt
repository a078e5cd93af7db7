use Rattle.std.proofs.Common.{◌≡◌}
use Rattle.checkpoint_text.proofs.read_directories.read_servings.Given as goal

-- the program stays
abbrev pub invariant-loop-k : goal.invariant-loop-k
invariant-loop-k l = l.parts.cores.code ≡ l.fn.parts.cores.code
