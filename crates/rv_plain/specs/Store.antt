-- The contents of RAM with a write buffer before it.
use Rattle.std.specs.Prelude.{ℕ, ◌<◌, List, Option, IsSome}
use Rattle.std.specs.BTreeMap.{is_at}
use Rattle.std.specs.Map.{lookup}
use Rattle.std.specs.Ordering.{nat_cmp}

-- RAM's words, and what waits to be written, by word
pub record Store : Type 0 where
  pub ram : List ℕ
  pub waiting : List (ℕ × ℕ)

-- what waits, as a map from word to value
unfoldable pub buffer_of : List (ℕ × ℕ) → ℕ → Option ℕ
buffer_of waiting w = lookup (is_at (nat_cmp w)) waiting

-- each word that waits is one of RAM's
abbrev pub IsInside : ℕ → List (ℕ × ℕ) → Type 0
IsInside words waiting = (w : ℕ) → IsSome (buffer_of waiting w) → w < words
