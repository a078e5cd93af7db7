-- Counts of faults, which stop rising at the largest `u64`.
use Rattle.std.specs.Prelude.{ℕ, ◌+◌, ◌-◌, ◌^◌, ◌≤◌, min}

-- one more fault, where a `u64` still has room for it
abbrev pub raised : ℕ → ℕ
raised count = min (count + 1) (2 ^ 64 - 1)

-- a count rose; one that stands at the largest `u64` is taken as risen
abbrev pub Rose : ℕ → ℕ → Type 0
Rose before now = raised before ≤ now
