-- The flags that an ordered set of TIDs stands for.
use Rattle.std.specs.Prelude.{ℕ, zero, suc, ◌+◌, ◌-◌, ◌^◌, ◌<◌, ◌≤◌, Bool, true, false, List, [], ◌∷◌}

-- n clear flags stand before these
unfoldable pub clear_before : ℕ → List Bool → List Bool
clear_before zero flags = flags
clear_before (suc n) flags = false ∷ clear_before n flags

-- one flag for each TID from `first` on, as far as the last of the rising TIDs: set for these, clear for the others
unfoldable pub window : ℕ → List ℕ → List Bool
window first [] = []
window first (t ∷ ts) = clear_before (t - first) (true ∷ window (t + 1) ts)

-- the TIDs rise from `first` on, and each is one that can be skipped
unfoldable pub Rises : ℕ → List ℕ → Type 0
Rises first [] = Unit {0}
Rises first (t ∷ ts) = (first ≤ t) × (t < 2 ^ 62) × Rises (t + 1) ts
