-- What is written, with the rows of the links that are left, is the rows of all.
use Rattle.std.proofs.Common.{◌≡◌, ◌++◌, codes, drop}
use Rattle.checkpoint_text.specs.Messages.{flying_rows}
use Rattle.checkpoint_text.specs.Tables.{all}
use Rattle.checkpoint_text.specs.Written.{numbered_text}
use Rattle.checkpoint_text.proofs.messages.push_message_table.Given as goal

abbrev pub invariant-loop-k : goal.invariant-loop-k
invariant-loop-k l =
    l.text ++ numbered_text (codes "message") (all (flying_rows 0) (λ row. row)) l.k (drop l.k l.lanes)
    ≡ l.fn.text ++ numbered_text (codes "message") (all (flying_rows 0) (λ row. row)) 0 l.lanes
