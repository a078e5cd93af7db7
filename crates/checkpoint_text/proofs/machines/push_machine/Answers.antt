-- Part by part, from the last one.
use Rattle.std.proofs.Common.{◌++◌, ◌∙◌, ap}
use Rattle.checkpoint_text.specs.Commits.{commit_tables}
use Rattle.checkpoint_text.specs.Laws.{machine_text}
use Rattle.checkpoint_text.specs.Machines.{machine_tables}
use Rattle.checkpoint_text.specs.Tables.{tables_rows}
use Rattle.row_text.specs.Rows.{rows_text}
use Rattle.checkpoint_text.proofs.Written.{part-written}
use Rattle.checkpoint_text.proofs.machines.push_machine.Goals as goal

pub returns-clause-laid_out : goal.returns-clause-laid_out
returns-clause-laid_out c = λ settled. record {
  caches = c.in_ok-push_cores.ensures.caches;
  lines = c.in_ok-push_directories.ensures.lines;
  words = c.in_ok-push_directories.ensures.home;
  link_cores = c.in_ok-push_messages.ensures.cores;
  link_dirs = c.in_ok-push_messages.ensures.dirs;
  settled = settled;
}

pub returns-clause-text : goal.returns-clause-text
unfolding machine_text machine_tables
returns-clause-text c =
    let before = c.push_messages.new.text in
    c.in_ok-push_commits.ensures
    ∙ ap (λ cs. before ++ rows_text (tables_rows (commit_tables cs))) c.commits.ensures
    ∙ part-written _ _ _ _ c.in_ok-push_messages.ensures.text
    ∙ part-written _ _ _ _ c.in_ok-push_directories.ensures.text
    ∙ part-written _ _ _ _ c.in_ok-push_cores.ensures.text
    ∙ part-written _ _ _ _ c.in_ok-push_head.ensures
