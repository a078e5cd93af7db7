-- The parts of a machine that is put together, and what always holds of them.
use Rattle.std.specs.Prelude.{ℕ, ◌≡◌}
use Rattle.machine_commits.specs.Rising.{Commits}
use Rattle.machine_cores.specs.Bank.{CoresData}
use Rattle.machine_dirs.specs.Bank.{DirsData}
use Rattle.machine_links.specs.Flights.{Flights}
use Rattle.machine_parts.specs.declared.parts.Parts.TheInside.{Inside}

pub record PartsData : Type 0 where
  pub cores : CoresData
  pub dirs : DirsData
  pub next : ℕ
  pub flights : Flights
  pub commits : Commits
  pub events : ℕ

abbrev pub parts_of : Inside → PartsData
parts_of p = record { cores = p.cores; dirs = p.dirs; next = p.vendor; flights = p.flights; commits = p.commits; events = p.events }

-- they are of one machine
pub record AreParts (p : PartsData) : Type 0 where
  pub dirs : p.dirs.settings ≡ p.cores.code.settings
  pub flight_cores : p.flights.cores ≡ p.cores.code.settings.cores
  pub flight_dirs : p.flights.dirs ≡ p.cores.code.settings.dirs

abbrev pub IsInside : Inside → Type 0
IsInside p = AreParts (parts_of p)
