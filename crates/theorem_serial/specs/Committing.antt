-- A Commit in flight is of the TID that its directory serves.
use Rattle.std.specs.Prelude.{ℕ, ◌≡◌, ◌<◌, ◌≤◌}
use Rattle.rules_maps.specs.Nodes.{Core, Dir}
use Rattle.rules_maps.specs.Shape.{Shape}
use Rattle.rules_tcc.specs.State.{World}
use Rattle.theorem_serial.specs.Count.{Commits, CommitsAbove, live}
use Rattle.theorem_serial.specs.Pairs.{Pair, pair}

-- no Commit of a TID above the served one is in flight
abbrev pub CommittingOf : Pair → Type 0
CommittingOf v = live (CommitsAbove v.dir.serving.serving) v.out ≡ 0

abbrev pub KeptCommitting : World → Type 0
KeptCommitting w = (c d : ℕ) → CommittingOf (pair w c d)

-- A TID whose Commit is in flight to a directory is the one that this directory serves; so at most one is.
abbrev pub CommitsAreServed : Shape → World → Type 0
CommitsAreServed sh w = (c d t : ℕ) → c < sh.cores → d < sh.dirs → 1 ≤ live (Commits t) (w.net (Core c) (Dir d))
    → (w.dirs d).serving.serving ≡ t
