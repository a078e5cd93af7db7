-- The files and the output before and after a call, as far as they tell.
use Rattle.std.specs.Prelude.{ℕ, List, ◌≡◌}
use Rattle.tcc_world.specs.Page.{Written}
use Rattle.tcc_world.specs.Disk.{Disk}

pub record FilesAround : Type 0 where
  pub before : Disk
  pub after : Disk

pub record Around : Type 0 where
  pub files : FilesAround
  pub out : Written

-- no contents changed
abbrev pub IsUntouched : FilesAround → Type 0
IsUntouched f = (name : List ℕ) → f.after.contents name ≡ f.before.contents name
