-- The parts of a bank of cores, and what always holds of them.
use Rattle.tcc_base.specs.Settings.{IsAllowed}
use Rattle.machine_cores.specs.Bank.{CoresData}
use Rattle.machine_cores.specs.BankInside.{AreCores}
use Rattle.bus_tcc.specs.declared.bank.BusBank.TheInside.{Inside}

abbrev pub bank_of : Inside → CoresData
bank_of b = record { code = b.code; cores = b.cores }

pub record IsBank (b : Inside) : Type 0 where
  pub allowed : IsAllowed b.code.settings
  pub cores : AreCores b.code.settings b.cores
