-- What is written and the lines to come are what was there and all lines.
use Rattle.std.proofs.Common.{◌≡◌, ◌-◌, ◌≤◌, ◌++◌, ℕ, List, drop, length, string_bytes}
use Rattle.std.specs.List.{flat_map}
use Rattle.image_load.specs.Start.{first_ram}
use Rattle.bus_tcc.specs.Machine.{BusMachine, bus_settings_of, bus_start_of, bus_world_of, word_in}
use Rattle.bus_changes.specs.Changes.{bus_change_lines, words_changes}
use Rattle.bus_changes.proofs.memory.push_lines.Given as goal

abbrev lines_since : BusMachine → List ℕ → List ℕ → List ℕ
lines_since m was ls =
    bus_change_lines (flat_map (words_changes (bus_settings_of m) (first_ram (bus_start_of m)) (word_in was) (bus_world_of m).ram) ls)

abbrev pub invariant-loop-at : goal.invariant-loop-at
invariant-loop-at l =
    (l.at ≤ length l.touched)
    × (string_bytes l.text ++ lines_since l.system l.was (drop l.at l.touched)
    ≡ string_bytes l.fn.text ++ lines_since l.system l.was l.touched)

abbrev pub decreases-loop-at : goal.decreases-loop-at
decreases-loop-at l = length l.touched - l.at
