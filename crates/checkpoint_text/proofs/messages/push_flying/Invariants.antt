-- What is written, with the rows of the messages that are left, is the rows of all that are in flight.
use Rattle.std.proofs.Common.{◌≡◌, ◌∷◌, ◌++◌, codes, drop, map}
use Rattle.machine_links.specs.Lane.{is_waiting, numbers_of}
use Rattle.checkpoint_text.specs.Written.{table_text}
use Rattle.checkpoint_text.proofs.Flying.{flying_row}
use Rattle.checkpoint_text.proofs.messages.push_flying.Given as goal

abbrev pub invariant-loop-i : goal.invariant-loop-i
invariant-loop-i l =
    l.text ++ table_text (codes "message") (map (λ s. l.k ∷ flying_row l.lane s) (drop l.i (numbers_of is_waiting l.lane)))
    ≡ l.fn.text ++ table_text (codes "message") (map (λ s. l.k ∷ flying_row l.lane s) (numbers_of is_waiting l.lane))
