-- The program stays, and fewer cores are left.
use Rattle.std.proofs.Common.{◌≡◌, length}
use Rattle.checkpoint_text.proofs.read_cores.put_cores.Given as goal

abbrev pub invariant-loop-core : goal.invariant-loop-core
invariant-loop-core l = record { program : l.parts.cores.code ≡ l.fn.parts.cores.code }

abbrev pub decreases-loop-core : goal.decreases-loop-core
decreases-loop-core l = length l.cores
