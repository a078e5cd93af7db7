-- Table by table.
use Rattle.std.proofs.Common.{[], ◌∷◌, ◌++◌, ◌∙◌, codes}
use Rattle.net_core.specs.Machine.{world_of}
use Rattle.row_text.specs.Rows.{rows_text}
use Rattle.checkpoint_text.specs.Machines.{head_tables, settings_numbers}
use Rattle.checkpoint_text.specs.Tables.{tables_rows}
use Rattle.checkpoint_text.proofs.Written.{row-written, tables-end}
use Rattle.checkpoint_text.proofs.heads.push_head.Goals as goal

pub returns : goal.returns
unfolding head_tables world_of
returns c =
    tables-end c.push_row-2.new.text
    ∙ row-written _ _ _ _ _ c.in_ok-push_row-2.ensures
    ∙ row-written _ _ _ _ _ c.in_ok-push_settings.ensures
    ∙ row-written _ _ _ _ _ c.in_ok-push_row.ensures
    ∙ (λ i. c.args.text.now ++ rows_text (tables_rows (
    record { word = codes "tcc-checkpoint"; rows = (1 ∷ []) ∷ [] }
    ∷ record { word = codes "settings"; rows = settings_numbers (c.config.ensures i) ∷ [] }
    ∷ record { word = codes "events"; rows = (c.events.ensures.count i ∷ c.next_tid.ensures i ∷ []) ∷ [] }
    ∷ [])))
