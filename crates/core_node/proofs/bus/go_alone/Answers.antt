use Rattle.std.proofs.Common.{refl}
use Rattle.rules_maps.specs.CacheChange.{read_cleared}
use Rattle.core_node.proofs.Cores.{whole_cache}
use Rattle.core_node.proofs.bus.go_alone.Goals as goal

pub returns-clause-stays : goal.returns-clause-stays
unfolding read_cleared
returns-clause-stays c =
    let h = whole_cache c.args.core.now c.clear_read.new.self c.requires.whole c.clear_read.ensures.config (rw c.clear_read.ensures.maps
    refl) in
    record { config = refl; id = refl; whole = record { cache = h.cache; awaited = h.awaited; after = h.after } }
