-- What is written, with the rows that are left, is all rows.
use Rattle.std.proofs.Common.{◌≡◌, ◌∷◌, ◌++◌, drop, map}
use Rattle.checkpoint_text.specs.Numbers.{load_numbers}
use Rattle.checkpoint_text.specs.Written.{table_text}
use Rattle.checkpoint_text.proofs.entries.push_loads.Given as goal

abbrev pub invariant-loop-load : goal.invariant-loop-load
invariant-loop-load l =
    l.text ++ table_text l.word (map (λ y. l.k ∷ load_numbers y) (drop l.load-index l.loads))
    ≡ l.fn.text ++ table_text l.word (map (λ y. l.k ∷ load_numbers y) l.loads)
