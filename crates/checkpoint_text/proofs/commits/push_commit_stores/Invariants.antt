-- What is written, with the rows of the commits that are left, is the rows of all.
use Rattle.std.proofs.Common.{◌≡◌, ◌++◌, codes, drop}
use Rattle.tcc_base.specs.declared.access.Commit.{Commit}
use Rattle.checkpoint_text.specs.Numbers.{stored_numbers}
use Rattle.checkpoint_text.specs.Tables.{all}
use Rattle.checkpoint_text.specs.Written.{numbered_text}
use Rattle.checkpoint_text.proofs.commits.push_commit_stores.Given as goal

abbrev pub invariant-loop-k : goal.invariant-loop-k
invariant-loop-k l =
    l.text ++ numbered_text (codes "commit-store") (all (λ (c : Commit). c.stores) stored_numbers) l.k (drop l.k l.commits)
    ≡ l.fn.text ++ numbered_text (codes "commit-store") (all (λ (c : Commit). c.stores) stored_numbers) 0 l.commits
