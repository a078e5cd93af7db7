-- What a core may hold.
use Rattle.std.specs.Prelude.{ℕ}
use Rattle.rules_maps.specs.Shape.{Shape}
use Rattle.rules_tcc.specs.State.{CoreState}
use Rattle.theorem_bounds.specs.Bounds.{AttemptCounted}
use Rattle.theorem_sound.specs.Sound.{KeepsItsEnd, MarksInMemory}

-- after so many events
pub record IsGoodCore (sh : Shape) (events : ℕ) (s : CoreState) : Type 0 where
  pub attempt : AttemptCounted events s
  pub marks : MarksInMemory sh s.cache
  pub ends : KeepsItsEnd s
