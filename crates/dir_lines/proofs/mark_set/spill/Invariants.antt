use Rattle.std.proofs.Common.{◌≡◌, ℕ, Bool, length}
use Rattle.dir_lines.specs.Marking.{IsMarked}
use Rattle.dir_lines.proofs.Spilling.{Spilling}
use Rattle.dir_lines.proofs.mark_set.spill.Given as goal

abbrev pub invariant-loop-place : goal.invariant-loop-place
invariant-loop-place l =
    (length l.many ≡ length l.fn.many) × ((p : ℕ → Bool) → IsMarked l.fn.few.items l.fn.many p → Spilling p l.few.items l.many)

abbrev pub decreases-loop-place : goal.decreases-loop-place
decreases-loop-place l = length l.few.items
