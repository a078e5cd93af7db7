-- What a report shows of a machine's memory.
use Rattle.std.proofs.Common.{◌≡◌, ℕ, ◌*◌, map, arith}
use Rattle.std.specs.List.{range_with_len}
use Rattle.rules_maps.specs.Words.{eight}
use Rattle.rules_bus.specs.Exec.{line_words}

-- the words of a line by their numbers
pub line-shown : (ram : ℕ → ℕ) (l : ℕ) → line_words ram l ≡ map ram (range_with_len (8 * l) 8)
unfolding line_words eight
line-shown ram l = grind (arith)
