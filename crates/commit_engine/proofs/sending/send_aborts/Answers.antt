use Rattle.std.proofs.Common.{arith}
use Rattle.spec_cache.specs.Held.{maps}
use Rattle.commit_engine.proofs.FirstWith.{aborts_are}
use Rattle.commit_engine.proofs.Lemmas.{sent_as}
use Rattle.commit_engine.proofs.sending.send_aborts.Goals as goal

pub returns : goal.returns
returns c =
    sent_as c.args.out.now c.send_each.new.out _ _ _ _ c.send_each.ensures
    (aborts_are c.args.cfg.now (maps c.args.cache.now) c.args.written.bits c.args.tid.0 c.requires.written) (omega arith)
