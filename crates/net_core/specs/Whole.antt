-- What always holds of a machine.
use Rattle.std.specs.Prelude.{◌≡◌, ◌≤◌}
use Rattle.image_load.specs.Start.{first_ram}
use Rattle.net_core.specs.Limits.{machine_limit}
use Rattle.tcc_base.specs.Settings.{IsAllowed}
use Rattle.machine_dirs.specs.Bank.{dirs_of}
use Rattle.theorem_sound.specs.Sound.{Sound}
use Rattle.net_core.specs.Machine.{Machine, history_of, start_of, settings_of}
use Rattle.net_core.specs.Delivery.{AreMarked}

-- the rules can go on from it
abbrev pub IsSound : Machine → Type 0
IsSound m = Sound (settings_of m) m.events (history_of m)

pub record IsWhole (m : Machine) : Type 0 where
  pub allowed : IsAllowed (settings_of m)
  pub dirs : m.dirs.settings ≡ settings_of m
  pub flight_cores : m.flights.cores ≡ (settings_of m).cores
  pub flight_dirs : m.flights.dirs ≡ (settings_of m).dirs
  pub sound : IsSound m
  pub few : m.events ≤ machine_limit
  pub marked : AreMarked (settings_of m) (dirs_of (first_ram (start_of m)) m.dirs) m.flights
