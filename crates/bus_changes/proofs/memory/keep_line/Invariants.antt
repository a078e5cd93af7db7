-- The words so far are taken.
use Rattle.std.proofs.Common.{◌≡◌, ◌+◌, ◌*◌, ◌&&◌, nat_le, nat_lt, length}
use Rattle.bus_tcc.specs.Machine.{bus_world_of, word_in}
use Rattle.bus_changes.specs.Memory.{AreTaken}
use Rattle.bus_changes.proofs.memory.keep_line.Given as goal

abbrev pub invariant-loop-k : goal.invariant-loop-k
invariant-loop-k l =
    (length l.ram ≡ length l.fn.ram)
    × AreTaken (λ x. nat_le (8 * l.line) x && nat_lt x (8 * l.line + l.k)) (word_in l.fn.ram) (word_in l.ram) (bus_world_of l.system).ram
