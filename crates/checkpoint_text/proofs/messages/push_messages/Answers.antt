-- Table by table, from the last one.
use Rattle.std.proofs.Common.{◌++◌, ◌∙◌, ap}
use Rattle.row_text.specs.Rows.{rows_text}
use Rattle.checkpoint_text.specs.Messages.{message_tables}
use Rattle.checkpoint_text.specs.Tables.{tables_rows}
use Rattle.checkpoint_text.proofs.Written.{table-written, tables-end}
use Rattle.checkpoint_text.proofs.messages.push_messages.Goals as goal

pub returns-clause-text : goal.returns-clause-text
unfolding message_tables
returns-clause-text c =
    tables-end c.push_message_table.new.text
    ∙ table-written _ _ _ _ _ _ c.in_ok-push_message_table.ensures
    ∙ table-written _ _ _ _ _ _ c.in_ok-push_sent_table.ensures
    ∙ ap (λ ls. c.args.text.now ++ rows_text (tables_rows (message_tables ls))) c.all_lanes-lanes.ensures.lanes
