use Rattle.std.proofs.Common.{All, IsTrue, take}
use Rattle.row_text.specs.Rows.{is_word_byte}
use Rattle.row_text.proofs.reading.are_word_bytes.Given as goal

-- a word may have all bytes so far
abbrev pub invariant-loop-byte : goal.invariant-loop-byte
invariant-loop-byte l = All (λ b. IsTrue (is_word_byte b)) (take l.byte-index l.bytes)
