use Rattle.std.proofs.Common.{◌≡◌, ◌<◌, ℕ, Some, get_or, Contains}
use Rattle.spec_cache.specs.Home.{written_found}
use Rattle.spec_cache.proofs.noted.all_written_in.Given as goal

abbrev pub invariant-loop-at : goal.invariant-loop-at
invariant-loop-at l = record {
  each : (j x : ℕ) → j < l.at-index → written_found l.dirs l.home l.ways (get_or l.places j 0) ≡ Some x → Contains l.lines.items x;
  only : (x : ℕ) → Contains l.lines.items x → (j : ℕ) × (written_found l.dirs l.home l.ways j ≡ Some x);
}
