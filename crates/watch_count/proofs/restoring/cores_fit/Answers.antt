-- The next core fits.
use Rattle.std.proofs.Common.{◌≤◌, arith}
use Rattle.std.proofs.lemmas.Grind.{common_steps}
use Rattle.watch_count.specs.Sizes.{core_size}
use Rattle.watch_count.proofs.Testing.{left-drop}
use Rattle.watch_count.proofs.restoring.cores_fit.Goals as goal

pub loop-core-preserved : goal.loop-core-preserved
loop-core-preserved c =
    left-drop (λ x. core_size x ≤ c.args.bound) c.args.cores.now c.loop-core.core-index _ c.loop-core-test.true c.loop-core.invariant
    (c.core_fits.ensures.0 (grind (arith, common_steps)))
