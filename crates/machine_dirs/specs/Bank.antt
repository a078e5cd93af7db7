-- All directories of a machine as plain data, and the states of the rules that they stand for.
use Rattle.std.specs.Prelude.{ℕ, List, Option, Some, None, slice_get}
use Rattle.tcc_base.specs.Settings.{Settings}
use Rattle.rules_tcc.specs.State.{DirState, dir_start}
use Rattle.directory.specs.Data.{DirData, dir_of}

pub record DirsData : Type 0 where
  pub settings : Settings
  pub dirs : List DirData

abbrev pub dir_or : (ram : ℕ → ℕ) → Option DirData → DirState
dir_or ram None = dir_start ram
dir_or ram (Some d) = dir_of ram d

-- the directories by number; one that the machine doesn't have is as at the start, and so are the words of other homes
unfoldable pub dirs_of : (ram : ℕ → ℕ) → DirsData → ℕ → DirState
dirs_of ram b d = dir_or ram (slice_get b.dirs d)
