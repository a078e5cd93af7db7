use Rattle.std.proofs.Common.{◌-◌, length}
use Rattle.dir_lines.proofs.Finding.{Finding}
use Rattle.dir_lines.proofs.mark_set.nth_from.Given as goal

abbrev pub invariant-loop-left : goal.invariant-loop-left
invariant-loop-left l = Finding l.records l.from l.k l.at l.left

abbrev pub decreases-loop-left : goal.decreases-loop-left
decreases-loop-left l = length l.records - l.at
