-- Counts by place, and where a number falls among them.
use Rattle.std.specs.Prelude.{◌≡◌, ℕ, ◌+◌, ◌<◌, List, length, take, sum, slice_index}

-- the k-th of all that is counted falls in this place, so far into it: before it stand the counts of the places before, and that far
pub record FallsAt (counts : List ℕ) (k place into : ℕ) : Type 0 where
  pub before : k ≡ sum (take place counts) + into
  pub within : into < slice_index counts place
  pub exists : place < length counts

-- so of what is counted from a place on
pub record FallsFrom (counts : List ℕ) (from k place into : ℕ) : Type 0 where
  pub before : sum (take from counts) + k ≡ sum (take place counts) + into
  pub within : into < slice_index counts place
  pub exists : place < length counts
