use Rattle.checkpoint_text.proofs.Reading.{row-shorter}
use Rattle.checkpoint_text.proofs.fields.row_in_front.Goals as goal

pub returns-clause-shorter : goal.returns-clause-shorter
returns-clause-shorter c = row-shorter _ _ _ _ _ c.read_row.ensures.read
