-- Numbers in hexadecimal digits, lower-case.
use Rattle.std.specs.Prelude.{ℕ, zero, suc, ◌-◌, ◌/◌, ◌%◌, ◌^◌, false, List, [], ◌∷◌}
use Rattle.std.specs.Fmt.{digit_glyph, digits, padded_integral, format_spec}

-- at least so many lower-case hexadecimal digits, with zeros in front
abbrev pub hex : (width n : ℕ) → List ℕ
hex width n = padded_integral (format_spec 32 0 4 width (2 ^ 64 - 1)) false [] (digits 16 false n)

-- the last digits of a number, so many of them, and then more
unfoldable pub last_digits : (count n : ℕ) → (more : List ℕ) → List ℕ
last_digits zero n more = more
last_digits (suc count) n more = last_digits count (n / 16) (digit_glyph false (n % 16) ∷ more)
