-- Table by table, from the last one.
use Rattle.std.proofs.Common.{◌≡◌, ◌++◌, ◌∙◌, Some, ap, slice_get, subst, sym}
use Rattle.row_text.specs.Rows.{rows_text}
use Rattle.checkpoint_text.specs.Cores.{core_tables}
use Rattle.checkpoint_text.specs.Tables.{tables_rows}
use Rattle.checkpoint_text.proofs.Written.{table-written, tables-end}
use Rattle.checkpoint_text.proofs.cores.push_cores.Goals as goal

pub returns-clause-caches : goal.returns-clause-caches
returns-clause-caches c = λ k x at.
    c.in_ok-push_frame_table.ensures.caches k x (subst (λ cs. slice_get cs k ≡ Some x) (sym c.all_cores-cores.ensures.data) at)
    ∙ c.all_cores-cores.ensures.config k x at

pub returns-clause-text : goal.returns-clause-text
unfolding core_tables
returns-clause-text c =
    tables-end c.push_byte_table.new.text
    ∙ table-written _ _ _ _ _ _ c.in_ok-push_byte_table.ensures
    ∙ table-written _ _ _ _ _ _ c.in_ok-push_store_table.ensures
    ∙ table-written _ _ _ _ _ _ c.in_ok-push_load_table.ensures
    ∙ table-written _ _ _ _ _ _ c.in_ok-push_spilled_table.ensures
    ∙ table-written _ _ _ _ _ _ c.in_ok-push_frame_table.ensures.text
    ∙ table-written _ _ _ _ _ _ c.in_ok-push_after_table.ensures
    ∙ table-written _ _ _ _ _ _ c.in_ok-push_saved_table.ensures
    ∙ table-written _ _ _ _ _ _ c.in_ok-push_state_table.ensures
    ∙ table-written _ _ _ _ _ _ c.in_ok-push_core_table.ensures
    ∙ ap (λ cs. c.args.text.now ++ rows_text (tables_rows (core_tables cs))) c.all_cores-cores.ensures.data
