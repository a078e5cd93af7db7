use Rattle.count_rows.proofs.Fronts.{row-shorter}
use Rattle.count_rows.proofs.rows.row_in_front.Goals as goal

pub returns-clause-shorter : goal.returns-clause-shorter
returns-clause-shorter c = row-shorter _ _ _ _ _ c.read_row.ensures.read
