-- A lane as it is kept: the number of messages that were sent, and those in flight by rising number.
use Rattle.std.specs.Prelude.{ℕ, zero, suc, ◌≤◌, ◌==◌, List, [], ◌∷◌, ◌++◌, Option, Some, None, if◌then◌else◌}
use Rattle.machine_links.specs.declared.lane.Held.{Held}
use Rattle.machine_links.specs.declared.lane.Waiting.{Waiting}

-- the list of the first n values
unfoldable pub laid : {A : Type 0} → (ℕ → A) → ℕ → List A
laid f zero = []
laid f (suc n) = laid f n ++ f n ∷ []

-- the message of that number
unfoldable pub held_at : List Waiting → ℕ → Option Held
held_at [] k = None
held_at (w ∷ ws) k = if w.seq == k then Some w.held else held_at ws k

-- the numbers rise, and none is below low or as high as high
abbrev pub Rises : (low high : ℕ) → List Waiting → Type 0
Rises low high [] = low ≤ high
Rises low high (w ∷ ws) = (low ≤ w.seq) × Rises (suc w.seq) high ws
