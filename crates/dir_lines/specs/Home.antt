-- Which lines are at home at a directory.
use Rattle.std.specs.Prelude.{ℕ, ◌+◌, ◌/◌, ◌%◌, ◌<◌, ◌≡◌, nat_lt, if◌then◌else◌}
use Rattle.tcc_base.specs.Settings.{Settings, IsAllowed}
use Rattle.rules_maps.specs.Shape.{lines, home}

-- one directory of a machine
pub record Home : Type 0 where
  pub shape : Settings
  pub dir : ℕ

-- it exists
abbrev pub IsHome : Home → Type 0
IsHome h = IsAllowed h.shape × (h.dir < h.shape.dirs)

-- the line exists and is at home there
abbrev pub IsAtHome : Home → ℕ → Type 0
IsAtHome h l = (l < lines h.shape) × (home h.shape l ≡ h.dir)

-- how many lines are at home there
abbrev pub home_lines : Home → ℕ
home_lines h = lines h.shape / h.shape.dirs + (if nat_lt h.dir (lines h.shape % h.shape.dirs) then 1 else 0)
