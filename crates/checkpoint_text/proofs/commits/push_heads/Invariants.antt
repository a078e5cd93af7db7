-- What is written, with the rows of the commits that are left, is the rows of all.
use Rattle.std.proofs.Common.{◌≡◌, ◌++◌, codes, drop}
use Rattle.checkpoint_text.specs.Commits.{commit_numbers}
use Rattle.checkpoint_text.specs.Tables.{each}
use Rattle.checkpoint_text.specs.Written.{numbered_text}
use Rattle.checkpoint_text.proofs.commits.push_heads.Given as goal

abbrev pub invariant-loop-k : goal.invariant-loop-k
invariant-loop-k l =
    l.text ++ numbered_text (codes "commit") (each commit_numbers) l.k (drop l.k l.commits)
    ≡ l.fn.text ++ numbered_text (codes "commit") (each commit_numbers) 0 l.commits
