-- Commits that are forgotten: those of the smallest TIDs.
use Rattle.std.specs.Prelude.{ℕ, ◌≡◌, ◌<◌, ◌≤◌, List, [], ◌∷◌, ◌++◌}
use Rattle.tcc_base.specs.declared.access.Commit.{Commit}

-- the TIDs of all of them are below this one
unfoldable pub AllBelow : (tid : ℕ) → List Commit → Type 0
AllBelow tid [] = Unit {0}
AllBelow tid (c ∷ cs) = (c.tid.0 < tid) × AllBelow tid cs

-- none of them has a TID below this one
unfoldable pub NoneBelow : (tid : ℕ) → List Commit → Type 0
NoneBelow tid [] = Unit {0}
NoneBelow tid (c ∷ cs) = (tid ≤ c.tid.0) × NoneBelow tid cs

-- the first commits are gone, as many as have TIDs below this one
pub record Forgets (tid : ℕ) (old new : List Commit) : Type 0 where
  pub gone : List Commit
  pub parts : old ≡ gone ++ new
  pub below : AllBelow tid gone
  pub stay : NoneBelow tid new
