use Rattle.std.proofs.Common.{refl}
use Rattle.image_load.specs.Contents.{started}
use Rattle.rv_code.specs.Machine.{program}
use Rattle.spec_cache.specs.Held.{maps}
use Rattle.spec_cache.specs.Useful.{wants_of}
use Rattle.core_node.specs.View.{core_of}
use Rattle.core_node.proofs.Evictions.{nth-as}
use Rattle.core_node.proofs.useful.useful_evict.Goals as goal

pub returns : goal.returns
unfolding core_of
returns c =
    let k = c.args.core.now in
    nth-as k.config (program (started c.args.code.now)) (core_of k) k.cache.config (wants_of c.wants.result) (maps k.cache) c.args.k
    c.useful_way.result c.requires.whole.cache (c.wants.ensures (program (started c.args.code.now)) c.waits_for_room.ensures) refl
    c.useful_way.ensures
