-- Which core may take which place.
use Rattle.std.specs.Prelude.{◌<◌, ◌≡◌}
use Rattle.tcc_base.specs.Settings.{Settings}
use Rattle.tcc_base.specs.declared.names.CoreId.{CoreId}
use Rattle.core_node.specs.declared.state.Core.{Core}

-- the machine has a core of this number, and this one has that number and the machine's settings
pub record IsOwnCore (s : Settings) (number : CoreId) (c : Core) : Type 0 where
  pub exists : number.0 < s.cores
  pub config : c.config ≡ s
  pub id : c.id ≡ number
