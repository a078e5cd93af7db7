-- What is written, with the rows of the links that are left, is the rows of all.
use Rattle.std.proofs.Common.{◌≡◌, ◌∷◌, ◌++◌, [], codes, drop, length}
use Rattle.machine_links.specs.Lane.{Lane}
use Rattle.checkpoint_text.specs.Tables.{each}
use Rattle.checkpoint_text.specs.Written.{numbered_text}
use Rattle.checkpoint_text.proofs.messages.push_sent_table.Given as goal

abbrev pub invariant-loop-k : goal.invariant-loop-k
invariant-loop-k l =
    l.text ++ numbered_text (codes "sent") (each (λ (x : Lane). length x ∷ [])) l.k (drop l.k l.lanes)
    ≡ l.fn.text ++ numbered_text (codes "sent") (each (λ (x : Lane). length x ∷ [])) 0 l.lanes
