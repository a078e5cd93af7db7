use Rattle.std.proofs.Common.{arith, refl, ℕ, Bool, ◌≡◌, ap, ◌∙◌, not, nat_lt, ◌&&◌, ◌||◌}
use Rattle.rules_maps.specs.Cache.{reads_at, writes_at}
use Rattle.rules_maps.specs.Masks.{has}
use Rattle.spec_cache.specs.Held.{maps}
use Rattle.commit_engine.specs.Engine.{first_with}
use Rattle.commit_engine.proofs.FirstWith.{grants_are}
use Rattle.commit_engine.proofs.Lemmas.{sent_as, sent_both}
use Rattle.commit_engine.proofs.sending.send_granted.Goals as goal

pub returns : goal.returns
returns c =
    let all = rw c.dirs.ensures.value at c.below.ensures in
    let skips : (d : ℕ)
    → has c.minus-unwritten.result.bits d
    ≡ (nat_lt d c.args.cfg.now.dirs && not (first_with c.args.cfg.now.dirs (writes_at c.args.cfg.now (maps c.args.cache.now)) d)) =
    λ d. ap (λ (p : ℕ → Bool). p d) c.minus-unwritten.ensures ∙ rw (all, c.requires.written) refl in
    let probes : (d : ℕ)
    → has c.or.result.bits d ≡ (first_with c.args.cfg.now.dirs (writes_at c.args.cfg.now (maps c.args.cache.now)) d
    || first_with c.args.cfg.now.dirs (reads_at c.args.cfg.now (maps c.args.cache.now)) d) =
    λ d. ap (λ (p : ℕ → Bool). p d) c.or.ensures ∙ rw (c.requires.written, c.requires.read) refl in
    sent_as c.args.out.now c.send_each-2.new.out _ _ _ _
    (sent_both c.args.out.now c.send_each.new.out c.send_each-2.new.out _ _ _ _ c.send_each.ensures c.send_each-2.ensures)
    (grants_are c.args.cfg.now (maps c.args.cache.now) c.minus-unwritten.result.bits c.or.result.bits c.args.tid.0 skips probes)
    (omega arith)
