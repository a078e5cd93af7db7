use Rattle.std.proofs.Common.{◌-◌, length}
use Rattle.base_sums.proofs.Falling.{Falling}
use Rattle.base_sums.proofs.blocks.fall_in_sums.Given as goal

abbrev pub invariant-loop-at : goal.invariant-loop-at
invariant-loop-at l = Falling l.sums l.from l.k l.at l.left

abbrev pub decreases-loop-at : goal.decreases-loop-at
decreases-loop-at l = length l.sums - l.at
