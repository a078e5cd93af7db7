-- What an overflow buffer keeps, line by line, and the map from words to values that it stands for.
use Rattle.std.specs.Prelude.{ℕ, ◌<◌, ◌≡◌, ◌≢◌, ◌==◌, List, length, get_or, Option, Some, None, if◌then◌else◌}
use Rattle.std.specs.Map.{lookup}
use Rattle.rules_maps.specs.Words.{line_of, place_of, eight}
use Rattle.rules_maps.specs.Masks.{has}
use Rattle.rules_maps.specs.Spilled.{Spilled}
use Rattle.overflow_buf.specs.declared.line.SpilledLine.{SpilledLine}

abbrev pub Entries : Type 0
Entries = List (ℕ × SpilledLine)

-- what is kept of a line
unfoldable pub kept_at : Entries → ℕ → Option SpilledLine
kept_at es l = lookup (λ k. l == k) es

-- the value that is kept of a word, by its place
unfoldable pub word_in : Option SpilledLine → ℕ → Option ℕ
word_in None k = None
word_in (Some s) k = if has s.mask.0 k then Some (get_or s.words k 0) else None

-- the kept words
unfoldable pub spilled : Entries → Spilled
spilled es = λ w. word_in (kept_at es (line_of w)) (place_of w)

-- the kept words but for those of one line
unfoldable pub without_line : ℕ → Spilled → Spilled
without_line l sp = λ w. if l == line_of w then None else sp w

-- what holds of a line that is kept: it has eight words, of which some are kept
pub record IsSpilled (s : SpilledLine) : Type 0 where
  pub fits : s.mask.0 < 256
  pub some : s.mask.0 ≢ 0
  pub eight_words : length s.words ≡ 8

unfoldable pub IsLine : Option SpilledLine → Type 0
IsLine None = Unit {0}
IsLine (Some s) = IsSpilled s

-- what holds of every buffer
abbrev pub IsBuffer : Entries → Type 0
IsBuffer es = (l : ℕ) → IsLine (kept_at es l)

-- the masked words new, and the others as they were
unfoldable pub merged : ℕ → List ℕ → List ℕ → List ℕ
merged m new old = eight (λ k. if has m k then get_or new k 0 else get_or old k 0)
