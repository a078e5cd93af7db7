use Rattle.std.proofs.Common.{◌≡◌, true}
use Rattle.rules_maps.specs.Words.{all_below}
use Rattle.rules_maps.specs.Cache.{way_marked}
use Rattle.spec_cache.specs.Held.{maps}
use Rattle.spec_cache.proofs.ways.Ways.all_marked.Given as goal

abbrev pub invariant-loop-way : goal.invariant-loop-way
invariant-loop-way g l = all_below (λ y. way_marked (maps (g.Self.Ways.held l.self)) ((maps (g.Self.Ways.held l.self)).at l.set y)) l.way
    ≡ true
