-- A line whose data was asked for has an owner, from which they come.
use Rattle.std.specs.Prelude.{ℕ, ◌≡◌, true, is_some}
use Rattle.rules_maps.specs.Shape.{Shape}
use Rattle.rules_tcc.specs.State.{DirState, World}

abbrev pub AskedOwned : DirState → Type 0
AskedOwned s = (l : ℕ) → s.lines.asked l ≡ true → is_some (s.lines.owner l) ≡ true

abbrev pub KeptAsked : Shape → World → Type 0
KeptAsked sh w = (d : ℕ) → AskedOwned (w.dirs d)
