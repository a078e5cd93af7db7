-- A Commit counts the Marks of its TID, and none of them is on its way any more once the Commit is handled.
use Rattle.std.specs.Prelude.{ℕ, ◌≡◌, ◌<◌, ◌≤◌, nat_lt}
use Rattle.rules_maps.specs.Words.{num}
use Rattle.rules_maps.specs.Shape.{Shape, lines}
use Rattle.rules_tcc.specs.DirDeliver.{sum_below}
use Rattle.rules_tcc.specs.State.{World}
use Rattle.theorem_serial.specs.Count.{MarkOf, CommitOf, live}
use Rattle.theorem_serial.specs.Marks.{marks_of}
use Rattle.theorem_serial.specs.Pairs.{Pair, pair}

-- one Mark at most of each line, and so many of them
pub record CountsMarks (sh : Shape) (n t : ℕ) (v : Pair) : Type 0 where
  pub each : (l : ℕ) → marks_of t l v ≤ num (nat_lt l (lines sh))
  pub sum : sum_below (λ l. marks_of t l v) (lines sh) ≡ n

-- A Commit in flight counts the Marks of its TID, and while acknowledgements are owed none of the served TID is in flight.
pub record CountedOf (sh : Shape) (d t : ℕ) (v : Pair) : Type 0 where
  pub counted : (n : ℕ) → d < sh.dirs → 1 ≤ live (CommitOf t n) v.out → CountsMarks sh n t v
  pub settled : (l : ℕ) → d < sh.dirs → 1 ≤ v.dir.owed → live (MarkOf v.dir.serving.serving l) v.out ≡ 0

abbrev pub KeptCounted : Shape → World → Type 0
KeptCounted sh w = (c d t : ℕ) → c < sh.cores → CountedOf sh d t (pair w c d)
