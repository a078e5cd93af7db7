use Rattle.std.proofs.Common.{◌≡◌, nat_lt, arith}
use Rattle.rules_maps.specs.Masks.{has}
use Rattle.commit_engine.proofs.Lemmas.{sent_as, probes_all}
use Rattle.commit_engine.proofs.sending.send_probes.Goals as goal

pub returns : goal.returns
returns c =
    let all : has c.below.result.bits ≡ (λ d. nat_lt d c.args.cfg.now.dirs) = rw c.dirs.ensures.value at c.below.ensures in
    sent_as c.args.out.now c.send_each.new.out _ _ _ _ c.send_each.ensures (probes_all c.args.cfg.now c.below.result.bits c.args.tid.0 all)
    (omega arith)
