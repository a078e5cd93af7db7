-- A mask is a number below 256 that says which of the eight words of a line are meant.
use Rattle.std.specs.Prelude.{ℕ, ◌+◌, ◌*◌, Bool, ◌==◌, ◌&&◌, List, get_or, bit_and, bit_or, bit_xor, if◌then◌else◌}
use Rattle.std.specs.Int.{bit_at}
use Rattle.rules_maps.specs.Words.{num, eight, line_of, place_of}

-- the mask holds the word at place k
unfoldable pub has : ℕ → ℕ → Bool
has m k = 1 == bit_at m k

-- the mask of the places below eight that have p
unfoldable pub mask_of : (ℕ → Bool) → ℕ
mask_of p = num (p 0) + 2 * num (p 1) + 4 * num (p 2) + 8 * num (p 3) + 16 * num (p 4) + 32 * num (p 5) + 64 * num (p 6) + 128 * num (p 7)

-- the words of the one that are not in the other, that are in both, that are in either
abbrev pub minus : ℕ → ℕ → ℕ
minus m n = bit_xor m (bit_and m n)

abbrev pub meet : ℕ → ℕ → ℕ
meet m n = bit_and m n

abbrev pub join : ℕ → ℕ → ℕ
join m n = bit_or m n

-- the mask with all places
abbrev pub full : ℕ
full = 255

-- word w is one of the words of line l that the mask holds
unfoldable pub hit : ℕ → ℕ → ℕ → Bool
hit l m w = l == line_of w && has m (place_of w)

-- the words under the mask, zero elsewhere
unfoldable pub masked : ℕ → List ℕ → List ℕ
masked m ws = eight (λ k. if has m k then get_or ws k 0 else 0)
