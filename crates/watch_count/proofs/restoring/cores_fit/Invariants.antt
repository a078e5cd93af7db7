-- All cores fit where those that are left do.
use Rattle.std.proofs.Common.{◌≤◌, drop}
use Rattle.watch_count.specs.Sizes.{core_size}
use Rattle.watch_count.proofs.Testing.{Left}
use Rattle.watch_count.proofs.restoring.cores_fit.Given as goal

abbrev pub invariant-loop-core : goal.invariant-loop-core
invariant-loop-core l = Left (λ x. core_size x ≤ l.bound) (drop l.core-index l.cores) l.cores
