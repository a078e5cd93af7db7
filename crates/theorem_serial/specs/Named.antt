-- An invalidation in flight is of a marked line and has its mask; of each line one at most is in flight to a core, or
-- acknowledged by it.
use Rattle.std.specs.Prelude.{ℕ, ◌+◌, ◌≡◌, ◌<◌, ◌≤◌}
use Rattle.rules_maps.specs.Words.{num}
use Rattle.rules_maps.specs.Lines.{has_mark}
use Rattle.rules_maps.specs.Shape.{Shape}
use Rattle.rules_tcc.specs.State.{World}
use Rattle.theorem_serial.specs.Count.{InvOf, InvMask, AckOf, live}
use Rattle.theorem_serial.specs.Pairs.{Pair, pair}

pub record NamedOf (line : ℕ) (v : Pair) : Type 0 where
  pub one : live (InvOf line) v.back + live (AckOf line) v.out ≤ num (has_mark v.dir.lines line)
  pub mask : live (InvMask line (v.dir.lines.mark line)) v.back ≡ 0

abbrev pub KeptNamed : Shape → World → Type 0
KeptNamed sh w = (c d l : ℕ) → c < sh.cores → d < sh.dirs → NamedOf l (pair w c d)
