-- No bit stands as high, since what is left above is nothing.
use Rattle.std.proofs.Common.{◌/◌, ◌^◌, ◌<◌, arith}
use Rattle.std.proofs.lemmas.Bool.{eqb-true, eq-eqb}
use borrow.Author.Tests.{le-leb}
use Rattle.dir_lines.proofs.Restoring.{has-below, small-shifted, shifted-small}
use Rattle.dir_lines.proofs.core_set.are_below.Goals as goal

pub returns-then-count-ge64 : goal.returns-then-count-ge64
returns-then-count-ge64 c = (
  λ h n e. let few : n < 64 = has-below c.args.bits 64 n (omega (arith, c.ranges.bits.fits)) e in omega (arith, c.if-count-ge64.true),
  λ h. le-leb 64 c.args.count c.if-count-ge64.true,
)

pub returns-else-count-ge64 : goal.returns-else-count-ge64
returns-else-count-ge64 c = (
  λ h n e. has-below c.args.bits c.args.count n
      (small-shifted c.args.bits c.args.count (eqb-true (c.args.bits / 2 ^ c.args.count) 0 h)) e,
  λ h. eq-eqb (c.args.bits / 2 ^ c.args.count) 0 (shifted-small c.args.bits c.args.count h),
)
