-- The parts of a bank, and what always holds of them.
use Rattle.std.specs.Prelude.{ℕ, ◌≡◌, List, length, slice_get, Some}
use Rattle.tcc_base.specs.Settings.{Settings, IsAllowed}
use Rattle.directory.specs.Data.{DirData}
use Rattle.machine_dirs.specs.Bank.{DirsData}
use Rattle.machine_dirs.specs.declared.bank.DirBank.TheInside.{Inside}

abbrev pub bank_of : Inside → DirsData
bank_of b = record { settings = b.config; dirs = b.dirs }

-- as many directories as the machine has, each the one of its number
pub record AreDirs (s : Settings) (dirs : List DirData) : Type 0 where
  pub count : length dirs ≡ s.dirs
  pub each : (d : ℕ) (x : DirData) → slice_get dirs d ≡ Some x → x.lines.place ≡ record { shape = s; dir = d }

pub record IsBank (b : Inside) : Type 0 where
  pub allowed : IsAllowed b.config
  pub dirs : AreDirs b.config b.dirs
