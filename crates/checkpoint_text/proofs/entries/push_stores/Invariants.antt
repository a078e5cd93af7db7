-- What is written, with the rows that are left, is all rows.
use Rattle.std.proofs.Common.{◌≡◌, ◌∷◌, ◌++◌, drop, map}
use Rattle.checkpoint_text.specs.Numbers.{stored_numbers}
use Rattle.checkpoint_text.specs.Written.{table_text}
use Rattle.checkpoint_text.proofs.entries.push_stores.Given as goal

abbrev pub invariant-loop-store : goal.invariant-loop-store
invariant-loop-store l =
    l.text ++ table_text l.word (map (λ y. l.k ∷ stored_numbers y) (drop l.store-index l.stores))
    ≡ l.fn.text ++ table_text l.word (map (λ y. l.k ∷ stored_numbers y) l.stores)
