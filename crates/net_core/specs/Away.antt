-- Which lines have copies away from their homes: a note for each line of RAM, which most lines don't get.
use Rattle.std.specs.Prelude.{ℕ, ◌≡◌, ◌<◌, Bool, true, false, List, [], get_or}
use Rattle.rules_maps.specs.Shape.{lines}
use Rattle.rules_maps.specs.Words.{line_of}
use Rattle.rules_tcc.specs.Seen.{copies}
use Rattle.net_core.specs.Machine.{Machine, settings_of, world_of}

-- whether the line is noted, as each line that RAM doesn't have is
abbrev pub is_noted : List Bool → (line : ℕ) → Bool
is_noted notes l = get_or notes l true

-- notes are only added, and each line that has none then is as P says
abbrev pub Covers : (old new : List Bool) → (ℕ → Type 0) → Type 0
Covers old new P = (l : ℕ) → is_noted new l ≡ false → (is_noted old l ≡ false) × P l

-- no core has a copy of a word of a line without a note, and none is on its way to the line's home
abbrev pub CoversCopies : Machine → List Bool → Type 0
CoversCopies m notes =
    (w : ℕ) → line_of w < lines (settings_of m) → is_noted notes (line_of w) ≡ false → copies (settings_of m) (world_of m) w ≡ []
