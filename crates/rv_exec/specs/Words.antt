-- Words as numbers: a register of 32 bits is read without a sign or in two's complement, and a result is taken modulo 2^32
-- (RISC-V Unprivileged ISA, 2.4: overflow is ignored and the low bits of results are written).
use Rattle.std.specs.Prelude.{ℕ, ℤ, pos, ◌+ℤ◌, ◌^◌, unsigned_abs}
use Rattle.std.specs.Int.{w32, cast_signed, int_rem_euclid}

-- the signed reading of a word
abbrev pub signed : ℕ → ℤ
signed w = cast_signed w32 w

-- the word of an integer: the integer modulo 2^32
abbrev pub word : ℤ → ℕ
word z = unsigned_abs (int_rem_euclid z (pos (2 ^ 32)))

-- a word and a signed distance from it
abbrev pub displaced : ℕ → ℤ → ℕ
displaced w distance = word (pos w +ℤ distance)
