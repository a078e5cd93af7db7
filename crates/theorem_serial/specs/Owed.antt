-- What a directory is owed is what is in flight: its invalidations and the acknowledgements that come back.
use Rattle.std.specs.Prelude.{ℕ, ◌+◌, ◌≡◌, ◌≤◌, true}
use Rattle.rules_maps.specs.Shape.{Shape, home}
use Rattle.rules_maps.specs.Lines.{has_mark}
use Rattle.rules_tcc.specs.State.{World}
use Rattle.theorem_serial.specs.Count.{Invs, InvsNot, InvsAway, Acks, MarksAway, AnyResolve, live}
use Rattle.theorem_serial.specs.Pairs.{Pair, pair, sum_of}

-- a core's invalidations and acknowledgements
unfoldable pub due : Pair → ℕ
due v = live Invs v.back + live Acks v.out

-- as many are owed as are in flight
abbrev pub OwedAt : Shape → World → (dir : ℕ) → Type 0
OwedAt sh w d = (w.dirs d).owed ≡ sum_of due sh.cores w d

-- Invalidations carry the served TID and lines at home, marks in flight and marked lines are at home, and no word on a TID is
-- in flight to a directory that the machine doesn't have.
pub record AtHomeOf (sh : Shape) (d : ℕ) (v : Pair) : Type 0 where
  pub served : live (InvsNot v.dir.serving.serving) v.back ≡ 0
  pub invs : live (InvsAway sh.dirs d) v.back ≡ 0
  pub marks : live (MarksAway sh.dirs d) v.out ≡ 0
  pub far : sh.dirs ≤ d → live AnyResolve v.out ≡ 0
  pub marked : (l : ℕ) → has_mark v.dir.lines l ≡ true → home sh l ≡ d

pub record KeptOwed (sh : Shape) (w : World) : Type 0 where
  pub owed : (d : ℕ) → OwedAt sh w d
  pub at_home : (c d : ℕ) → AtHomeOf sh d (pair w c d)
