use Rattle.std.proofs.Common.{◌≡◌, not, is_some, None}
use Rattle.rules_maps.specs.Words.{lowest}
use Rattle.spec_cache.specs.Held.{maps}
use Rattle.spec_cache.proofs.ways.Ways.free_way.Given as goal

abbrev pub invariant-loop-way : goal.invariant-loop-way
invariant-loop-way g l = lowest (λ y. not (is_some ((maps (g.Self.Ways.held l.self)).at l.set y))) l.way ≡ None
