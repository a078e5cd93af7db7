-- Bit fields of a word, as the manual writes inst[hi:lo], and numbers in two's complement.
use Rattle.std.specs.Prelude.{ℕ, ℤ, pos, negsuc, ◌+◌, ◌-◌, ◌/◌, ◌%◌, ◌^◌, nat_lt, if◌then◌else◌}

-- the bits hi to lo of a word
abbrev pub bits : ℕ → ℕ → ℕ → ℕ
bits w hi lo = w / 2 ^ lo % 2 ^ (hi + 1 - lo)

-- the number that n bits stand for in two's complement
abbrev pub signed : ℕ → ℕ → ℤ
signed n p = if nat_lt p (2 ^ (n - 1)) then pos p else negsuc (2 ^ n - 1 - p)

-- the n bits that stand for a number in two's complement
abbrev pub pattern : ℕ → ℤ → ℕ
pattern n (pos k) = k
pattern n (negsuc k) = 2 ^ n - 1 - k
