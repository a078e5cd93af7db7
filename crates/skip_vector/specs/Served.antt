-- The TID that a directory can serve, with so many flags above it.
use Rattle.std.specs.Prelude.{ℕ, ◌+◌, ◌^◌, ◌<◌, ◌≤◌}

-- neither it nor one above it is too large: `advance` passes the flags, and goes one further
abbrev pub IsServed : (serving ahead : ℕ) → Type 0
IsServed serving ahead = (serving ≤ 2 ^ 62 + 1) × (0 < ahead → serving + ahead < 2 ^ 62)
