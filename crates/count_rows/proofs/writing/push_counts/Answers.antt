-- Table by table, from the last one.
use Rattle.std.proofs.Common.{[], ◌∷◌, ◌++◌, ◌∙◌}
use Rattle.row_text.specs.Rows.{rows_text}
use Rattle.watch_count.specs.declared.rows.Table.TheVariants as table
use Rattle.count_rows.specs.Rows.{bound_rows, conflict_rows, core_rows, counts_rows, counts_tables, counts_text, line_rows, message_rows}
use Rattle.count_rows.specs.Rows.{all_rows}
use Rattle.count_rows.proofs.Written.{row-alone, rows-end, rows-written}
use Rattle.count_rows.proofs.writing.push_counts.Goals as goal

pub returns : goal.returns
unfolding counts_text counts_rows counts_tables
returns c =
    let cores = c.args.counts.now.cores in
    rows-end c.push_conflicts.new.text
    ∙ rows-written (conflict_rows _) _ _ _ c.in_ok-push_conflicts.ensures
    ∙ rows-written (line_rows _) _ _ _ c.in_ok-push_lines.ensures
    ∙ rows-written (message_rows _) _ _ _ c.in_ok-push_messages.ensures
    ∙ rows-written (core_rows table.Phases cores) _ _ _ c.in_ok-push_table-5.ensures
    ∙ rows-written (core_rows table.Evictions cores) _ _ _ c.in_ok-push_table-4.ensures
    ∙ rows-written (core_rows table.Accesses cores) _ _ _ c.in_ok-push_table-3.ensures
    ∙ rows-written (core_rows table.Instructions cores) _ _ _ c.in_ok-push_table-2.ensures
    ∙ rows-written (core_rows table.Attempts cores) _ _ _ c.in_ok-push_table.ensures
    ∙ rows-written (bound_rows _) _ _ _ (row-alone _ _ _ _ c.in_ok-push_row.ensures)
    ∙ (λ i. c.args.text.now ++ rows_text (all_rows (
    bound_rows (c.bound.ensures i)
    ∷ core_rows table.Attempts cores
    ∷ core_rows table.Instructions cores
    ∷ core_rows table.Accesses cores
    ∷ core_rows table.Evictions cores
    ∷ core_rows table.Phases cores
    ∷ message_rows (c.messages.ensures i)
    ∷ line_rows (c.lines.ensures i)
    ∷ conflict_rows (c.conflicts.ensures i)
    ∷ [])))
