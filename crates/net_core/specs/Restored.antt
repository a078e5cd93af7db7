-- A machine that goes on from its parts.
use Rattle.std.specs.Prelude.{◌≡◌, []}
use Rattle.image_load.specs.Start.{first_ram}
use Rattle.machine_parts.specs.Parts.{PartsData}
use Rattle.machine_parts.specs.Together.{AreSound, history_by}
use Rattle.net_core.specs.Machine.{Machine, history_of, start_of}

-- its state, its commits and its events are those of the parts, and they are sound
pub record IsRestored (p : PartsData) (m : Machine) : Type 0 where
  pub sound : AreSound p
  pub code : m.cores.code ≡ p.cores.code
  pub history : history_of m ≡ history_by (first_ram (start_of m)) p
  pub events : m.events ≡ p.events
  pub settled : m.unsent ≡ []
