-- The next conflict fits.
use Rattle.std.proofs.Common.{◌≤◌, arith}
use Rattle.std.proofs.lemmas.Grind.{common_steps}
use Rattle.watch_count.specs.Sizes.{conflict_size}
use Rattle.watch_count.proofs.Testing.{left-entry}
use Rattle.watch_count.proofs.restoring.conflicts_fit.Goals as goal

pub loop-counts-preserved : goal.loop-counts-preserved
loop-counts-preserved c =
    left-entry (λ x. conflict_size x ≤ c.args.bound) _ _ _ _ _ c.in-Some.ensures.steps c.loop-counts.invariant
    (c.conflict_fits.ensures.0 (grind (arith, common_steps)))
