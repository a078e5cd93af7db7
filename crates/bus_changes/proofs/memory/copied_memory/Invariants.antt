-- The words so far are there.
use Rattle.std.proofs.Common.{◌≡◌, ◌<◌, length, ℕ}
use Rattle.bus_tcc.specs.Machine.{bus_world_of, word_in}
use Rattle.bus_changes.proofs.memory.copied_memory.Given as goal

abbrev pub invariant-loop-word : goal.invariant-loop-word
invariant-loop-word l =
    (length l.ram ≡ l.word) × ((x : ℕ) → x < l.word → word_in l.ram x ≡ (bus_world_of l.system).ram x)
