use Rattle.std.proofs.Common.{refl}
use Rattle.rules_maps.specs.CacheChange.{cleaned}
use Rattle.core_node.proofs.Cores.{whole_cache}
use Rattle.core_node.proofs.bus.clean.Goals as goal

pub returns-clause-stays : goal.returns-clause-stays
unfolding cleaned
returns-clause-stays c = record {
  config = refl;
  id = refl;
  whole = whole_cache c.args.core.now c.take_dirty.new.self c.requires.whole c.take_dirty.ensures.config (rw c.take_dirty.ensures.maps
      refl);
}
