use Rattle.std.proofs.Common.{◌≡◌, ◌<◌, ℕ, Some, get_or, Contains}
use Rattle.spec_cache.specs.MarkedSets.{marked_set}
use Rattle.spec_cache.proofs.marked_sets.all_marked_sets.Given as goal

abbrev pub invariant-loop-at : goal.invariant-loop-at
invariant-loop-at l = record {
  each : (j x : ℕ) → j < l.at-index → marked_set l.config.ways l.ways (get_or l.places j 0) ≡ Some x → Contains l.sets x;
  only : (x : ℕ) → Contains l.sets x → (j : ℕ) × (marked_set l.config.ways l.ways j ≡ Some x);
}
