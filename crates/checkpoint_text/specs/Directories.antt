-- The tables of directories, and of the lines of memory.
use Rattle.std.specs.Prelude.{ℕ, Bool, true, false, ◌==◌, ◌&&◌, List, [], ◌∷◌, ◌++◌, map, codes, Option, Some, None, option_map, slice_get}
use Rattle.std.specs.Prelude.{if◌then◌else◌}
use Rattle.std.specs.List.{flat_map}
use Rattle.image_load.specs.Contents.{Contents, started}
use Rattle.rules_maps.specs.Shape.{home, lines}
use Rattle.rules_maps.specs.Words.{eight, word_at}
use Rattle.rules_tcc.specs.Seen.{numbers as first_numbers}
use Rattle.dir_lines.specs.Pages.{pages_at}
use Rattle.dir_lines.specs.Record.{Record, blank}
use Rattle.dir_lines.specs.Words.{words_at}
use Rattle.directory.specs.Data.{DirData}
use Rattle.checkpoint_text.specs.Tables.{Table, each, numbered}
use Rattle.checkpoint_text.specs.Numbers.{flag, optional}

-- the TID that it serves, and how many acknowledgements are owed
abbrev pub serving_numbers : DirData → List ℕ
serving_numbers d = d.serving.serving ∷ d.owed ∷ []

-- sharers as bits, owner, tag, whether the owner is asked, and mark
unfoldable pub record_numbers : Record → List ℕ
record_numbers r = r.sharers.0 ∷ (optional (option_map (λ c. c.0) r.owner) ++ (r.tag.0 ∷ flag r.asked ∷ r.mark.0 ∷ []))

-- what a directory knows of a line that is at home there, and the line's words
unfoldable pub line_numbers : (line : ℕ) → DirData → List ℕ
line_numbers l d = record_numbers (pages_at d.lines l) ++ eight (λ k. words_at (λ w. 0) d.words (word_at l k))

-- the same at the start
unfoldable pub first_line : Contents → (line : ℕ) → List ℕ
first_line c l = record_numbers blank ++ eight (λ k. (started c).word (word_at l k))

abbrev pub are_same : List ℕ → List ℕ → Bool
are_same [] [] = true
are_same (x ∷ xs) (y ∷ ys) = x == y && are_same xs ys
are_same _ _ = false

-- a row for a line that isn't as at the start
abbrev pub changed_row : (first : List ℕ) → (line : ℕ) → (now : Option (List ℕ)) → List (List ℕ)
changed_row first l None = []
changed_row first l (Some now) = if are_same now first then [] else (l ∷ now) ∷ []

unfoldable pub line_row : Contents → List DirData → (line : ℕ) → List (List ℕ)
line_row c ds l = changed_row (first_line c l) l (option_map (line_numbers l) (slice_get ds (home c.settings l)))

unfoldable pub directory_tables : Contents → List DirData → List Table
directory_tables c ds =
    record { word = codes "directory"; rows = numbered (each serving_numbers) 0 ds }
    ∷ record { word = codes "skipped"; rows = numbered (each (λ (d : DirData). map flag d.serving.skips)) 0 ds }
    ∷ record { word = codes "line"; rows = flat_map (line_row c ds) (first_numbers (lines c.settings)) }
    ∷ []
