use Rattle.std.proofs.Common.{◌-◌, length}
use Rattle.base_sums.proofs.Falling.{Falling}
use Rattle.base_sums.proofs.blocks.fall_in_counts.Given as goal

abbrev pub invariant-loop-left : goal.invariant-loop-left
invariant-loop-left l = Falling l.counts l.from l.k l.at l.left

abbrev pub decreases-loop-left : goal.decreases-loop-left
decreases-loop-left l = length l.counts - l.at
