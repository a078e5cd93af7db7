-- What is written, with the rows of the lines that are left, is the rows of all.
use Rattle.std.proofs.Common.{◌≡◌, ◌∷◌, ◌++◌, codes, drop, map}
use Rattle.checkpoint_text.specs.Cores.{spilled_numbers}
use Rattle.checkpoint_text.specs.Written.{table_text}
use Rattle.checkpoint_text.proofs.cores.push_spilled.Given as goal

abbrev pub invariant-loop-i : goal.invariant-loop-i
invariant-loop-i l =
    l.text ++ table_text (codes "spilled") (map (λ y. l.k ∷ spilled_numbers y) (drop l.i l.spilled))
    ≡ l.fn.text ++ table_text (codes "spilled") (map (λ y. l.k ∷ spilled_numbers y) l.spilled)
