use Rattle.std.proofs.Common.{◌≡◌, ℕ, Bool, true, false, sym, ap, ◌∙◌}
use Rattle.tcc_base.specs.Put.{put}
use Rattle.tcc_base.specs.Settings.{Settings}
use Rattle.rules_maps.specs.Cache.{writes_at}
use Rattle.spec_cache.specs.Held.{maps}
use Rattle.commit_engine.proofs.FirstWith.{first_none, first_in, first_out}
use Rattle.commit_engine.proofs.homes.written_homes.Goals.{then-writes_at, else-writes_at}
use Rattle.commit_engine.proofs.homes.written_homes.Goals as goal

pub loop-d-init : goal.loop-d-init
loop-d-init c = record { found = c.none-set.ensures ∙ first_none (writes_at c.args.cfg.now (maps c.args.cache.now)) }

pub loop-d-preserved : goal.loop-d-preserved
loop-d-preserved c = elim c.if-writes_at.branch [
  | then-writes_at w ↦ (let e : writes_at c.args.cfg.now (maps c.args.cache.now) c.loop-d.d ≡ true = ap
      (λ (sh : Settings). writes_at sh (maps c.args.cache.now) c.loop-d.d) (sym c.requires) ∙ sym c.writes_at.ensures
      ∙ w.if-writes_at.true in
      record {
        found = rw w.set-is (w.with-set.ensures ∙ ap (λ (p : ℕ → Bool). put p c.loop-d.d true) c.loop-d.invariant.found
            ∙ first_in c.loop-d.d (writes_at c.args.cfg.now (maps c.args.cache.now)) e);
      })
  | else-writes_at w ↦ (let e : writes_at c.args.cfg.now (maps c.args.cache.now) c.loop-d.d ≡ false = ap
      (λ (sh : Settings). writes_at sh (maps c.args.cache.now) c.loop-d.d) (sym c.requires) ∙ sym c.writes_at.ensures
      ∙ w.if-writes_at.false in
      record { found = rw w.set-is (c.loop-d.invariant.found ∙ first_out c.loop-d.d (writes_at c.args.cfg.now (maps c.args.cache.now)) e) })
]
