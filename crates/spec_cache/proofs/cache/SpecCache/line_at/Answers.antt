use Rattle.std.proofs.Common.{◌≡◌, ◌∙◌, arith, sym, ap}
use Rattle.spec_cache.proofs.Consistent.{no_such_way}
use Rattle.spec_cache.proofs.cache.SpecCache.line_at.Goals as goal
use Rattle.spec_cache.proofs.cache.SpecCache.line_at.Goals.{then-set-sets-via-then-set-sets, then-set-sets-via-else-set-sets+then-way-ways}

pub returns-then-set-sets : goal.returns-then-set-sets
returns-then-set-sets c =
    let sets : c.sets.result ≡ c.self.inside.frames.config.sets = c.sets.ensures.value ∙ ap (λ s. s.sets) c.config-config.ensures.value in
    rw (sym c.self.view_is) (no_such_way c.self.inside.frames c.config-config.ensures.in_order c.args.set c.args.way (λ set way.
    elim c.then-set-sets.branch [
      | then-set-sets-via-then-set-sets w ↦ omega (arith, set, w.if-set-sets.true, sets)
      | then-set-sets-via-else-set-sets+then-way-ways w ↦
          let ways : w.ways.result ≡ c.self.inside.frames.config.ways =
          w.ways.ensures.value ∙ ap (λ s. s.ways) c.config-config.ensures.value in
          omega (arith, way, w.if-way-ways.true, ways)
    ]))
