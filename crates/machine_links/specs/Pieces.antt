-- The messages of a link in pieces, and what a call on a piece does to the list of all.
use Rattle.std.specs.Prelude.{◌≡◌, ℕ, ◌<◌, Bool, List, [], ◌∷◌, ◌++◌, length, slice_index_or, slice_set}
use Rattle.std.specs.List.{remove, count_by}
use Rattle.machine_links.specs.declared.lane.Waiting.{Waiting}
use Rattle.machine_links.specs.Laid.{Rises}

-- all of them, piece by piece
unfoldable pub flat : List (List Waiting) → List Waiting
flat [] = []
flat (x ∷ xs) = x ++ flat xs

-- how many are marked
abbrev pub marked_in : List Waiting → ℕ
marked_in ws = count_by (λ w. w.held.ready) ws

-- their numbers rise
pub record AreRising (ws : List Waiting) : Type 0 where
  pub high : ℕ
  pub rises : Rises 0 high ws

-- none of them is empty
abbrev pub AreFull : List (List Waiting) → Type 0
AreFull xs = (k : ℕ) → k < length xs → 0 < length (slice_index_or xs k [])

-- how many messages they have is counted
pub record IsRest (xs : List (List Waiting)) (n : ℕ) : Type 0 where
  pub counted : n ≡ length (flat xs)
  pub full : AreFull xs

-- the message of that number, which had the mark m, was taken out
pub record Taken (old new : List Waiting) (k : ℕ) (m : Bool) : Type 0 where
  pub at : ℕ
  pub within : at < length old
  pub own : (d : Waiting) → (slice_index_or old at d).seq ≡ k
  pub was : (d : Waiting) → (slice_index_or old at d).held.ready ≡ m
  pub left : new ≡ remove old at

-- the message of that number had the mark m, and has the mark b
pub record Marked (old new : List Waiting) (k : ℕ) (b m : Bool) : Type 0 where
  pub at : ℕ
  pub within : at < length old
  pub own : (d : Waiting) → (slice_index_or old at d).seq ≡ k
  pub was : (d : Waiting) → (slice_index_or old at d).held.ready ≡ m
  pub left : (d : Waiting) → let w = slice_index_or old at d in new ≡ slice_set old at (record w { held = record w.held { ready = b } })
