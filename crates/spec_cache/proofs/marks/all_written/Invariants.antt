use Rattle.std.proofs.Common.{◌≡◌, ◌<◌, ℕ, Some, Contains}
use Rattle.spec_cache.specs.Home.{written_found}
use Rattle.spec_cache.proofs.marks.all_written.Given as goal

abbrev pub invariant-loop-way : goal.invariant-loop-way
invariant-loop-way l = record {
  each : (j x : ℕ) → j < l.way-index → written_found l.dirs l.home l.ways j ≡ Some x → Contains l.lines.items x;
  only : (x : ℕ) → Contains l.lines.items x → (j : ℕ) × (written_found l.dirs l.home l.ways j ≡ Some x);
}
