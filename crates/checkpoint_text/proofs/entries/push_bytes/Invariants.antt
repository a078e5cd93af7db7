-- What is written, with the rows that are left, is all rows.
use Rattle.std.proofs.Common.{◌≡◌, ◌∷◌, ◌++◌, drop, map}
use Rattle.checkpoint_text.specs.Numbers.{byte_numbers}
use Rattle.checkpoint_text.specs.Written.{table_text}
use Rattle.checkpoint_text.proofs.entries.push_bytes.Given as goal

abbrev pub invariant-loop-byte : goal.invariant-loop-byte
invariant-loop-byte l =
    l.text ++ table_text l.word (map (λ y. l.k ∷ byte_numbers y) (drop l.byte-index l.bytes))
    ≡ l.fn.text ++ table_text l.word (map (λ y. l.k ∷ byte_numbers y) l.bytes)
