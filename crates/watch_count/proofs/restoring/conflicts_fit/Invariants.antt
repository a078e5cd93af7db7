-- All conflicts fit where those that are left do.
use Rattle.std.proofs.Common.{◌≤◌}
use Rattle.std.specs.Map.{values_of}
use Rattle.watch_count.specs.Sizes.{conflict_size}
use Rattle.watch_count.proofs.Testing.{Left}
use Rattle.watch_count.proofs.restoring.conflicts_fit.Given as goal

abbrev pub invariant-loop-counts : goal.invariant-loop-counts
invariant-loop-counts l = Left (λ x. conflict_size x ≤ l.bound) (values_of l.counts-iterator) (values_of l.conflicts.entries)
