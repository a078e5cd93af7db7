-- Which places of an array of records are marked: as a list, and as counts for each sixteen places.
use Rattle.std.specs.Prelude.{ℕ, ◌+◌, ◌*◌, ◌<◌, ◌≡◌, Bool, List, [], nat_lt, get_or, length, slice_index, sum}
use Rattle.rules_maps.specs.Words.{those, count_below}
use Rattle.dir_lines.specs.Record.{Record, blank}

-- whether the record at a place is marked
abbrev pub marked_at : List Record → ℕ → Bool
marked_at rs i = nat_lt 0 (get_or rs i blank).mark.0

-- each number counts the places with p among the next sixteen
abbrev pub Counts : (ℕ → Bool) → List ℕ → Type 0
Counts p counts = (c : ℕ) → c < length counts → count_below p (16 * c) + slice_index counts c ≡ count_below p (16 * (c + 1))

-- the places with p: listed while none is counted, else counted alone
pub record IsMarked (few counts : List ℕ) (p : ℕ → Bool) : Type 0 where
  pub listed : sum counts ≡ 0 → few ≡ those p (16 * length counts)
  pub counted : 0 < sum counts → (few ≡ []) × Counts p counts
