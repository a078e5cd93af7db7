-- Both from where the core waits for room.
use Rattle.std.proofs.Common.{refl}
use Rattle.image_load.specs.Contents.{started}
use Rattle.rv_code.specs.Machine.{program}
use Rattle.spec_cache.specs.Held.{maps}
use Rattle.spec_cache.specs.Useful.{wants_of}
use Rattle.core_node.specs.View.{core_of}
use Rattle.core_node.proofs.Evictions.{count-as}
use Rattle.core_node.proofs.useful.uses.Goals as goal

pub returns-clause-exec : goal.returns-clause-exec
returns-clause-exec c = c.may_exec.ensures (program (started c.args.code.now)) c.waits_for_room-waits.ensures

pub returns-clause-evicts : goal.returns-clause-evicts
unfolding core_of
returns-clause-evicts c =
    let k = c.args.core.now in
    count-as k.config (program (started c.args.code.now)) (core_of k) k.cache.config (wants_of c.wants.result) (maps k.cache)
    c.useful_count.result c.requires.whole.cache (c.wants.ensures (program (started c.args.code.now)) c.waits_for_room-waits.ensures) refl
    c.useful_count.ensures
