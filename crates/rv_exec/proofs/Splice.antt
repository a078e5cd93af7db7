-- A word in which some bytes are replaced is a word.
use Rattle.std.proofs.Common.{ℕ, zero, suc, ◌≡◌, ◌+◌, ◌*◌, ◌/◌, ◌%◌, ◌^◌, ◌<◌, arith}

abbrev pub spliced : (word unit span value : ℕ) → ℕ
spliced word unit span value = (word % unit) + (value % span) * unit + (word / (unit * span)) * (unit * span)

pub spliced-byte : (word r value : ℕ) → word < 2 ^ 32 → r < 4 → spliced word (256 ^ r) 256 value < 2 ^ 32
spliced-byte word zero value w h = omega arith
spliced-byte word (suc zero) value w h = omega arith
spliced-byte word (suc (suc zero)) value w h = omega arith
spliced-byte word (suc (suc (suc zero))) value w h = omega arith
spliced-byte word (suc (suc (suc (suc r)))) value w h = omega arith

pub spliced-half : (word r value : ℕ) → word < 2 ^ 32 → r < 4 → r % 2 ≡ 0 → spliced word (256 ^ r) 65536 value < 2 ^ 32
spliced-half word zero value w h e = omega arith
spliced-half word (suc zero) value w h e = omega arith
spliced-half word (suc (suc zero)) value w h e = omega arith
spliced-half word (suc (suc (suc zero))) value w h e = omega arith
spliced-half word (suc (suc (suc (suc r)))) value w h e = omega arith

pub spliced-word : (word r value : ℕ) → word < 2 ^ 32 → r ≡ 0 → spliced word (256 ^ r) 4294967296 value < 2 ^ 32
spliced-word word zero value w e = omega arith
spliced-word word (suc r) value w e = omega arith
