-- The words of the lines so far are taken.
use Rattle.std.proofs.Common.{◌≡◌, ◌-◌, ◌≤◌, length, take}
use Rattle.rules_maps.specs.Words.{line_of}
use Rattle.bus_tcc.specs.Machine.{bus_world_of, word_in}
use Rattle.bus_changes.specs.Memory.{AreTaken, is_among}
use Rattle.bus_changes.proofs.memory.keep_lines.Given as goal

abbrev pub invariant-loop-at : goal.invariant-loop-at
invariant-loop-at l =
    (l.at ≤ length l.touched) × (length l.ram ≡ length l.fn.ram)
    × AreTaken (λ x. is_among (line_of x) (take l.at l.touched)) (word_in l.fn.ram) (word_in l.ram) (bus_world_of l.system).ram

abbrev pub decreases-loop-at : goal.decreases-loop-at
decreases-loop-at l = length l.touched - l.at
