-- Table by table, from the last one.
use Rattle.std.proofs.Common.{◌∙◌}
use Rattle.checkpoint_text.specs.Commits.{commit_tables}
use Rattle.checkpoint_text.proofs.Written.{table-written, tables-end}
use Rattle.checkpoint_text.proofs.commits.push_commits.Goals as goal

pub returns : goal.returns
unfolding commit_tables
returns c =
    tables-end c.push_commit_bytes.new.text
    ∙ table-written _ _ _ _ _ _ c.in_ok-push_commit_bytes.ensures
    ∙ table-written _ _ _ _ _ _ c.in_ok-push_commit_stores.ensures
    ∙ table-written _ _ _ _ _ _ c.in_ok-push_commit_loads.ensures
    ∙ table-written _ _ _ _ _ _ c.in_ok-push_heads.ensures
