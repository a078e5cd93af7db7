-- The records of a directory, in their order. What is as in an untouched machine has none, but for the directory itself.
use Rattle.std.specs.Prelude.{ℕ, ◌+◌, Bool, not, ◌==◌, ◌||◌, List, [], ◌∷◌, ◌++◌, is_some, length, if◌then◌else◌}
use Rattle.std.specs.List.{flat_map}
use Rattle.rules_maps.specs.Lines.{Lines}
use Rattle.rules_maps.specs.Serving.{Serving, is_skipped}
use Rattle.rules_maps.specs.Shape.{Shape, home, lines}
use Rattle.rules_maps.specs.Words.{any_below, those, word_at}
use Rattle.rules_tcc.specs.Seen.{numbers}
use Rattle.rules_tcc.specs.State.{DirState}
use Rattle.watch_state.specs.Cores.{addr_of}
use Rattle.watch_state.specs.Records.{Known, Record, DirectoryIs, Skipped, LineIs, HomeWord}

-- the TIDs above the served one that were skipped; k counts from the next one on
unfoldable pub skipped_record : (dir : ℕ) → Serving → (k : ℕ) → List Record
skipped_record d s k = if is_skipped s (s.serving + 1 + k) then Skipped d (s.serving + 1 + k) ∷ [] else []

unfoldable pub known_of : Shape → Lines → (line : ℕ) → Known
known_of sh ls l = record {
  home = home sh l;
  owner = ls.owner l;
  tag = ls.tag l;
  asked = ls.asked l;
  mark = ls.mark l;
  sharers = those (ls.sharers l) sh.cores;
}

-- something is known of the line
abbrev pub is_known : Shape → Lines → (line : ℕ) → Bool
is_known sh ls l =
    is_some (ls.owner l)
    || (not (ls.tag l == 0) || (ls.asked l || (not (ls.mark l == 0) || any_below (ls.sharers l) sh.cores)))

unfoldable pub line_record : Shape → Lines → (line : ℕ) → List Record
line_record sh ls l = if is_known sh ls l then LineIs l (known_of sh ls l) ∷ [] else []

-- a home word that isn't as it was loaded
unfoldable pub word_record : Shape → (first words : ℕ → ℕ) → (word : ℕ) → List Record
word_record sh first words w = if words w == first w then [] else HomeWord (addr_of sh w) (words w) ∷ []

-- of the lines that are at home at this directory
unfoldable pub at_home : Shape → (dir : ℕ) → (ℕ → List Record) → (line : ℕ) → List Record
at_home sh d f l = if d == home sh l then f l else []

unfoldable pub word_records : Shape → (first words : ℕ → ℕ) → (line : ℕ) → List Record
word_records sh first words l = flat_map (λ k. word_record sh first words (word_at l k)) (numbers 8)

-- the directory itself, and the TIDs that were skipped
unfoldable pub serving_records : (dir : ℕ) → DirState → List Record
serving_records d s =
    DirectoryIs d s.serving.serving s.owed ∷ flat_map (skipped_record d s.serving) (numbers (length s.serving.skips))

-- with what it knows of some lines, and the home words of some; `first` are the loaded words
unfoldable pub directory_part : Shape → (first : ℕ → ℕ) → (dir : ℕ) → (known words : List ℕ) → DirState → List Record
directory_part sh first d known words s =
    serving_records d s
    ++ (flat_map (at_home sh d (line_record sh s.lines)) known ++ flat_map (at_home sh d (word_records sh first s.words)) words)

-- of all lines
unfoldable pub directory_records : Shape → (first : ℕ → ℕ) → (dir : ℕ) → DirState → List Record
directory_records sh first d s = directory_part sh first d (numbers (lines sh)) (numbers (lines sh)) s
