-- The settings of a machine, the limits that they keep, and where an address lies in RAM.
use Rattle.std.specs.Prelude.{ℕ, ◌+◌, ◌-◌, ◌/◌, ◌%◌, ◌^◌, ◌≤◌, ◌≡◌, IsTrue}
use Rattle.std.specs.Int.{is_power_of_two}
use Rattle.tcc_base.specs.declared.config.Limit.{Limit}
use Rattle.tcc_base.specs.declared.config.Limit.TheVariants.{Cores, Dirs, Sets, Ways, Ram, Base}

pub record Settings : Type 0 where
  pub cores : ℕ
  pub dirs : ℕ
  pub sets : ℕ
  pub ways : ℕ
  pub base : ℕ
  pub ram : ℕ

-- one limit
abbrev pub Keeps : Settings → Limit → Type 0
Keeps s Cores = (1 ≤ s.cores) × (s.cores ≤ 64)
Keeps s Dirs = (1 ≤ s.dirs) × (s.dirs ≤ 64)
Keeps s Sets = (IsTrue (is_power_of_two s.sets)) × (s.sets ≤ 1024)
Keeps s Ways = (1 ≤ s.ways) × (s.ways ≤ 16)
Keeps s Ram = (32 ≤ s.ram) × (s.ram ≤ 16777216) × (s.ram % 32 ≡ 0)
Keeps s Base = (s.base % 32 ≡ 0) × (s.base + s.ram ≤ 2 ^ 32)

-- the limits that are tested before this one
abbrev pub KeepsBefore : Settings → Limit → Type 0
KeepsBefore s Cores = Unit {0}
KeepsBefore s Dirs = Keeps s Cores
KeepsBefore s Sets = Keeps s Cores × Keeps s Dirs
KeepsBefore s Ways = Keeps s Cores × Keeps s Dirs × Keeps s Sets
KeepsBefore s Ram = Keeps s Cores × Keeps s Dirs × Keeps s Sets × Keeps s Ways
KeepsBefore s Base = Keeps s Cores × Keeps s Dirs × Keeps s Sets × Keeps s Ways × Keeps s Ram

-- all limits
abbrev pub IsAllowed : Settings → Type 0
IsAllowed s = Keeps s Cores × Keeps s Dirs × Keeps s Sets × Keeps s Ways × Keeps s Ram × Keeps s Base

-- the first limit that is broken
abbrev pub BreaksFirst : Settings → Limit → Type 0
BreaksFirst s l = KeepsBefore s l × (Keeps s l → ⊥)

-- all of `size` bytes from the address on lie in RAM
abbrev pub InRam : Settings → ℕ → ℕ → Type 0
InRam s addr size = (s.base ≤ addr) × (addr + size ≤ s.base + s.ram)
