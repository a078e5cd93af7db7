use Rattle.std.proofs.Common.{◌≡◌, ℕ, length}
use Rattle.rv_plain.specs.Buffered.{seen}
use Rattle.rv_plain.specs.Store.{buffer_of, IsInside}
use Rattle.rules_program.specs.Ram.{flat}
use Rattle.rv_plain.proofs.memory.drain.Given as goal

abbrev pub invariant-loop-w : goal.invariant-loop-w
invariant-loop-w l =
    (length l.ram ≡ length l.fn.ram)
    × IsInside (length l.ram) l.buffer.entries
    × ((w : ℕ) → seen (flat l.ram) (buffer_of l.buffer.entries) w ≡ seen (flat l.fn.ram) (buffer_of l.fn.buffer.entries) w)

abbrev pub decreases-loop-w : goal.decreases-loop-w
decreases-loop-w l = length l.buffer.entries
