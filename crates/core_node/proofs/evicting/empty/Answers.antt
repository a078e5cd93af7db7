use Rattle.std.proofs.Common.{◌≡◌, Some, None}
use Rattle.rules_maps.specs.Bridge.{tagged_of}
use Rattle.rules_maps.specs.Cache.{dirty_copy}
use Rattle.spec_cache.specs.Held.{maps}
use Rattle.core_node.proofs.Emptied.{no_back}
use Rattle.core_node.proofs.Handed.{written_back_none, written_back_some}
use Rattle.core_node.proofs.evicting.empty.Goals as goal

pub returns-in-Some-back-clause-sent : goal.returns-in-Some-back-clause-sent
returns-in-Some-back-clause-sent c =
    let k = c.args.core.now in
    let e : Some (tagged_of c.in-Some-back.back) ≡ dirty_copy
    (maps k.cache) c.in-Some.gone.line.0 = rw c.in-Some-back.is at c.in-Some.ensures.out.1.back in
    rw c.in-Some.ensures.out.0
    (written_back_some c.args.out.now c.hand_out.new.self k.config
    (maps k.cache) c.in-Some.gone.line.0 c.in-Some-back.back c.home.result e c.home.ensures.value
    (rw c.write_back_of.ensures at c.hand_out.ensures.sent) c.hand_out.ensures.room)

pub returns-in_default-back-clause-sent : goal.returns-in_default-back-clause-sent
returns-in_default-back-clause-sent c =
    let k = c.args.core.now in
    let n : c.in-Some.gone.back ≡ None = no_back c.in-Some.gone.back c.in_default-back.not-Some in
    let e : None ≡ dirty_copy (maps k.cache) c.in-Some.gone.line.0 = rw n at c.in-Some.ensures.out.1.back in
    rw c.in-Some.ensures.out.0 (written_back_none c.args.out.now k.config (maps k.cache) c.in-Some.gone.line.0 e)
