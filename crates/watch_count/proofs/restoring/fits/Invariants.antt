-- What is left of the bound is enough for the numbers that are left exactly where the bound is enough for all.
use Rattle.std.proofs.Common.{◌≡◌, ◌+◌, drop}
use Rattle.std.specs.List.{sum}
use Rattle.watch_count.proofs.restoring.fits.Given as goal

abbrev pub invariant-loop-number : goal.invariant-loop-number
invariant-loop-number l = sum (drop l.number-index l.numbers) + l.bound ≡ l.left + sum l.numbers
