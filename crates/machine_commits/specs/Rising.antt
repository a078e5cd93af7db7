-- Commits by rising TID.
use Rattle.std.specs.Prelude.{ℕ, ◌<◌, ◌≢◌, List, [], ◌∷◌}
use Rattle.tcc_base.specs.declared.access.Commit.{Commit}

-- the TIDs rise strictly from above `last`
unfoldable pub RisesFrom : (last : ℕ) → List Commit → Type 0
RisesFrom last [] = Unit {0}
RisesFrom last (c ∷ cs) = (last < c.tid.0) × RisesFrom c.tid.0 cs

-- the TIDs rise strictly
unfoldable pub Rising : List Commit → Type 0
Rising [] = Unit {0}
Rising (c ∷ cs) = RisesFrom c.tid.0 cs

-- no commit has the TID
unfoldable pub HasNone : (tid : ℕ) → List Commit → Type 0
HasNone tid [] = Unit {0}
HasNone tid (c ∷ cs) = (c.tid.0 ≢ tid) × HasNone tid cs

-- the commits, and how many more there is room for
pub record Commits : Type 0 where
  pub list : List Commit
  pub room : ℕ
