-- An array of words as a map by word.
use Rattle.std.specs.Prelude.{ℕ, ◌+◌, ◌*◌, ◌/◌, ◌<◌, ◌≡◌, ◌≢◌, List, length, get_or, if◌then◌else◌}
use Rattle.rules_maps.specs.Words.{line_of, place_of}
use Rattle.rules_maps.specs.Masks.{has, hit}
use Rattle.dir_lines.specs.Home.{Home}
use Rattle.dir_lines.specs.Pages.{is_at_home}

pub record Words : Type 0 where
  pub place : Home
  pub words : List ℕ

-- where the words of a line of the home begin in the array
abbrev pub first_place : Home → ℕ → ℕ
first_place h l = 8 * (l / h.shape.dirs)

-- the home words; for a word of another home what stands elsewhere
unfoldable pub words_at : (elsewhere : ℕ → ℕ) → Words → ℕ → ℕ
words_at elsewhere p w =
    if is_at_home p.place (line_of w)
    then get_or p.words (first_place p.place (line_of w) + place_of w) 0
    else elsewhere w

-- some words of one line in the place of those that stood there
abbrev pub with_words : (line mask : ℕ) → List ℕ → (ℕ → ℕ) → ℕ → ℕ
with_words l m ws f w = if hit l m w then get_or ws (place_of w) 0 else f w

-- of eight words from `at` on the first k are put in their places, where the mask holds them
pub record IsWritten (at mask k : ℕ) (ws old new : List ℕ) : Type 0 where
  pub count : length new ≡ length old
  pub here : (j : ℕ) → j < k → get_or new (at + j) 0 ≡ (if has mask j then get_or ws j 0 else get_or old (at + j) 0)
  pub others : (j : ℕ) → ((i : ℕ) → i < k → j ≢ at + i) → get_or new j 0 ≡ get_or old j 0
