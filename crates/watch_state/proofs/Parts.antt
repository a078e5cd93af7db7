-- The events of all cores, and of all nodes, part by part.
use Rattle.std.proofs.Common.{◌≡◌, refl}
use Rattle.std.specs.List.{flat_map}
use Rattle.rules_maps.specs.Shape.{Shape}
use Rattle.rules_tcc.specs.Seen.{numbers}
use Rattle.rules_tcc.specs.State.{World}
use Rattle.rules_tcc.specs.Useful.{delivers, evicts, nodes}
use Rattle.watch_state.specs.Events.{core_evicts, delivers_from, link_delivers, set_evicts}

pub evicts-parts : (sh : Shape) → evicts sh ≡ flat_map (core_evicts sh) (numbers sh.cores)
unfolding evicts core_evicts set_evicts
evicts-parts sh = refl

pub delivers-parts : (sh : Shape) (w : World) → delivers sh w ≡ flat_map (delivers_from sh w) (nodes sh)
unfolding delivers delivers_from link_delivers
delivers-parts sh w = refl

pub ruleset parts = (evicts-parts, delivers-parts)
