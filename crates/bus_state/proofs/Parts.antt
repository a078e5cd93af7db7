-- The events of all cores, part by part.
use Rattle.std.proofs.Common.{◌≡◌, refl}
use Rattle.std.specs.List.{flat_map}
use Rattle.rules_maps.specs.Shape.{Shape}
use Rattle.rules_tcc.specs.Seen.{numbers}
use Rattle.rules_bus.specs.Useful.{bus_evicts}
use Rattle.bus_state.specs.Text.{core_evicts, set_evicts}

pub evicts-parts : (sh : Shape) → bus_evicts sh ≡ flat_map (core_evicts sh) (numbers sh.cores)
unfolding bus_evicts core_evicts set_evicts
evicts-parts sh = refl

pub ruleset parts = (evicts-parts)
