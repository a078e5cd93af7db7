use Rattle.std.proofs.Common.{refl}
use Rattle.rules_maps.specs.CacheChange.{filled}
use Rattle.core_node.proofs.Cores.{whole_cache}
use Rattle.core_node.proofs.at_hand.fill_held.Goals as goal

pub returns-clause-held : goal.returns-clause-held
unfolding filled
returns-clause-held c = rw c.fill.ensures.maps c.requires.held

pub returns-clause-stays : goal.returns-clause-stays
unfolding filled
returns-clause-stays c = record {
  config = refl;
  id = refl;
  whole = whole_cache c.args.core.now c.fill.new.self c.requires.whole c.fill.ensures.config (rw c.fill.ensures.maps refl);
}
