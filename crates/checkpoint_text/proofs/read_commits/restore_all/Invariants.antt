use Rattle.std.proofs.Common.{◌≡◌, length}
use Rattle.checkpoint_text.proofs.read_commits.restore_all.Given as goal

-- the program stays
abbrev pub invariant-loop-commit : goal.invariant-loop-commit
invariant-loop-commit l = l.parts.cores.code ≡ l.fn.parts.cores.code

-- the commits that are left
abbrev pub decreases-loop-commit : goal.decreases-loop-commit
decreases-loop-commit l = length l.commits
