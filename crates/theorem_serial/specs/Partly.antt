-- A line that is marked in part has no owner, so that the words which its commit leaves alone are at home.
use Rattle.std.specs.Prelude.{ℕ, ◌≡◌, true, None, ◌⊎◌}
use Rattle.rules_maps.specs.Lines.{has_mark}
use Rattle.rules_maps.specs.Masks.{full}
use Rattle.rules_maps.specs.Shape.{Shape}
use Rattle.rules_tcc.specs.State.{DirState, World}

-- where nothing is owed, a marked line is wholly overwritten or has no owner
abbrev pub WhollyOrHome : DirState → Type 0
WhollyOrHome s = (l : ℕ) → s.owed ≡ 0 → has_mark s.lines l ≡ true → (s.lines.mark l ≡ full) ⊎ (s.lines.owner l ≡ None)

abbrev pub KeptWhole : Shape → World → Type 0
KeptWhole sh w = (d : ℕ) → WhollyOrHome (w.dirs d)
