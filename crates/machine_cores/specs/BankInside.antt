-- The parts of a bank, and what always holds of them.
use Rattle.std.specs.Prelude.{ℕ, ◌≡◌, List, length, slice_get, Some}
use Rattle.image_load.specs.Contents.{started}
use Rattle.rv_code.specs.Machine.{program}
use Rattle.tcc_base.specs.Settings.{Settings, IsAllowed}
use Rattle.core_node.specs.declared.state.Core.{Core}
use Rattle.machine_cores.specs.Bank.{CoresData, cores_of}
use Rattle.machine_cores.specs.Uses.{AreCounted}
use Rattle.machine_cores.specs.declared.bank.CoreBank.TheInside.{Inside}

abbrev pub bank_of : Inside → CoresData
bank_of b = record { code = b.code; cores = b.cores }

-- as many cores as the machine has, each the one of its number
pub record AreCores (s : Settings) (cores : List Core) : Type 0 where
  pub count : length cores ≡ s.cores
  pub each : (c : ℕ) (x : Core) → slice_get cores c ≡ Some x → (x.config ≡ s) × (x.id ≡ record { 0 = c })

pub record IsBank (b : Inside) : Type 0 where
  pub allowed : IsAllowed b.code.settings
  pub cores : AreCores b.code.settings b.cores
  pub counted : AreCounted b.code.settings (program (started b.code)) (cores_of (bank_of b)) b.execs b.evicts
