-- Where a machine's words and lines belong. Its shape is its settings.
use Rattle.std.specs.Prelude.{ℕ, ◌/◌, ◌%◌}
use Rattle.tcc_base.specs.Settings.{Settings}

abbrev pub Shape : Type 0
Shape = Settings

-- the number of lines of RAM, 32 bytes each
abbrev pub lines : Shape → ℕ
lines sh = sh.ram / 32

-- the directory at which a line is at home
abbrev pub home : Shape → ℕ → ℕ
home sh l = l % sh.dirs

-- the set in which a line may have a frame
abbrev pub set_of : Shape → ℕ → ℕ
set_of sh l = l % sh.sets
