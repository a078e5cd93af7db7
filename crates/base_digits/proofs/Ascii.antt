-- Hexadecimal digits are ASCII.
use Rattle.std.proofs.Common.{ℕ, zero, suc, ◌%◌, ◌/◌, ◌<◌, ◌^◌, false, List, [], ◌∷◌, arith}
use Rattle.std.proofs.lemmas.Bool.Decides.{nat_tests}
use Rattle.std.proofs.lemmas.Str.Ascii.{IsAscii-cons, IsAscii-nil}
use Rattle.std.specs.Fmt.{digit_glyph}
use Rattle.std.specs.Str.{IsAscii}
use Rattle.base_digits.specs.Digits.{hex, last_digits}
use Rattle.base_digits.proofs.Hex.{eight-digits, two-digits}

glyph_small : (d : ℕ) → d < 16 → digit_glyph false d < 128
glyph_small d h = grind (arith, nat_tests)

digits_ascii : (count n : ℕ) (more : List ℕ) → IsAscii more → IsAscii (last_digits count n more)
unfolding last_digits
digits_ascii zero n more m = m
digits_ascii (suc count) n more m =
    digits_ascii count (n / 16) (digit_glyph false (n % 16) ∷ more)
    (IsAscii-cons (digit_glyph false (n % 16)) more (glyph_small (n % 16) (omega arith)) m)

pub hex_ascii : (n : ℕ) → n < 2 ^ 32 → IsAscii (hex 8 n)
hex_ascii n h = rw (eight-digits n h) (digits_ascii 8 n [] IsAscii-nil)

pub hex_byte_ascii : (n : ℕ) → n < 2 ^ 8 → IsAscii (hex 2 n)
hex_byte_ascii n h = rw (two-digits n h) (digits_ascii 2 n [] IsAscii-nil)
