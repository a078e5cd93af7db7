-- Numbers that are found by their keys: for each key its newest number, and from each number the next older one with its key.
use Rattle.std.specs.Prelude.{ℕ, zero, suc, ◌≡◌, ◌<◌, ◌==◌, List, Option, Some, None, length, slice_index, nat_eq, if◌then◌else◌}
use Rattle.std.specs.Option.{unwrap_or}
use Rattle.indexmap.specs.IndexMap.{get}
use Rattle.run_outcomes.specs.declared.chains.Chains.{Chains}

-- the last of the first n numbers at which this key stands
unfoldable pub last_with : (keys : List ℕ) → (key n : ℕ) → Option ℕ
last_with keys key zero = None
last_with keys key (suc n) = if slice_index keys n == key then Some n else last_with keys key n

-- chains of the numbers of these keys; a number without an older one stands for itself
pub record AreChained (keys : List ℕ) (c : Chains) : Type 0 where
  pub counted : length c.older ≡ length keys
  pub newest : (key : ℕ) → get nat_eq c.newest key ≡ last_with keys key (length keys)
  pub older : (k : ℕ) → k < length keys → slice_index c.older k ≡ unwrap_or (last_with keys (slice_index keys k) k) k
