-- How many of the first numbers have a property, and which of them is the first.
use Rattle.std.specs.Prelude.{ℕ, zero, suc, ◌≡◌, ◌+◌, ◌<◌, ◌⊎◌, Option, Some, None}

-- so many of the numbers below n have the property
unfoldable pub HowMany : (P : ℕ → Type 0) → (n count : ℕ) → Type 0
HowMany P zero count = count ≡ 0
HowMany P (suc n) count =
    (P n × ((before : ℕ) × HowMany P n before × (count ≡ before + 1))) ⊎ ((P n → ⊥) × HowMany P n count)

-- the first of the numbers below n that has the property; None where none has
abbrev pub IsFirst : (P : ℕ → Type 0) → (n : ℕ) → Option ℕ → Type 0
IsFirst P n None = (k : ℕ) → k < n → P k → ⊥
IsFirst P n (Some first) = (first < n) × P first × ((k : ℕ) → k < first → P k → ⊥)

-- the first of two numbers of which the second one comes later
abbrev pub or_first : Option ℕ → (k : ℕ) → Option ℕ
or_first None k = Some k
or_first (Some first) k = Some first
