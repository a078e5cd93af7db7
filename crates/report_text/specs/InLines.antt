-- RAM by lines of eight words: the memory that a list of lines holds, and what is told of one line.
use Rattle.std.specs.Prelude.{ℕ, List, [], slice_index, slice_index_or, map, ◌*◌, ◌/◌, ◌%◌}
use Rattle.std.specs.List.{flat_map, range_with_len, sum}
use Rattle.report_text.specs.Text.{word_text}
use Rattle.report_text.specs.Trial.{word_growth}

-- the value of each word by its number
unfoldable pub in_lines : List (List ℕ) → ℕ → ℕ
in_lines lines word = slice_index (slice_index_or lines (word / 8) []) (word % 8)

-- the words of a line, where they differ from what was loaded
abbrev pub line_text : (base : ℕ) → (ram loaded : ℕ → ℕ) → (line : ℕ) → List ℕ
line_text base ram loaded line = flat_map (word_text base ram loaded) (range_with_len (8 * line) 8)

-- what the words of a line grew by
abbrev pub line_growth : (ram loaded : ℕ → ℕ) → (line : ℕ) → ℕ
line_growth ram loaded line = sum (map (word_growth ram loaded) (range_with_len (8 * line) 8))
