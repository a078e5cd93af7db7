-- The last row, or the counts.
use Rattle.std.proofs.lemmas.Result.{IfOk-weaker}
use Rattle.tcc_cli.proofs.growing.last_of.Goals as goal

pub returns-in-Rows : goal.returns-in-Rows
returns-in-Rows c = rw c.in-Rows.is (IfOk-weaker c.last_row.result _ _ (λ f h n k. h c.in-Rows.every n k) c.last_row.ensures)
