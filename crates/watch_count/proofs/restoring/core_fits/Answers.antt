-- The sum of the numbers is the size.
use Rattle.std.proofs.Common.{arith}
use Rattle.watch_count.specs.Sizes.{attempts_size, instructions_size, accesses_size, evictions_size, phases_size}
use Rattle.watch_count.proofs.restoring.core_fits.Goals as goal

pub returns : goal.returns
unfolding attempts_size instructions_size accesses_size evictions_size phases_size
returns c = (λ h. omega (arith, c.fits.ensures.0 h), λ h. c.fits.ensures.1 (omega (arith, h)))
