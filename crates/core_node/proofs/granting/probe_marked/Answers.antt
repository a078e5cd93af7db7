use Rattle.std.proofs.Common.{◌≡◌, refl}
use Rattle.rules_maps.specs.Masks.{has}
use Rattle.rules_tcc.specs.CoreDeliver.{is_probed}
use Rattle.spec_cache.specs.Held.{maps}
use Rattle.core_node.specs.View.{core_of}
use Rattle.core_node.proofs.Steps.{probed_is}
use Rattle.core_node.proofs.granting.probe_marked.Goals as goal

pub returns-clause-does : goal.returns-clause-does
unfolding core_of
returns-clause-does c =
    let k = c.args.core.now in
    let owing : has c.or-probed.result.bits ≡ is_probed k.config (maps k.cache) =
    probed_is k.config (maps k.cache) c.or-probed.result.bits c.written_homes-written.result.bits c.read_homes-read.result.bits
    c.or-probed.ensures c.written_homes-written.ensures c.read_homes-read.ensures in
    record { core = rw (c.awaiting-core.ensures, owing, c.dirs.ensures.value) refl; sent = c.send_granted.ensures }
