-- How many of the useful events that are held back stand among the first ones.
use Rattle.std.specs.Prelude.{ℕ, ◌≡◌, ◌+◌, List, filter, length, take}
use Rattle.rv_code.specs.Machine.{program}
use Rattle.rules_tcc.specs.Useful.{useful}
use Rattle.rules_phases.specs.Phased.{is_held}
use Rattle.net_core.specs.Machine.{Machine, history_of, start_of}
use Rattle.rules_maps.specs.Nodes.{Event}

-- all useful events
unfoldable pub all_in : Machine → List Event
all_in m = useful (start_of m).settings (program (start_of m)) (history_of m).world

-- how many are held back, and how many of the first n
unfoldable pub held_in : Machine → ℕ
held_in m = length (filter (is_held (start_of m) (history_of m)) (all_in m))

unfoldable pub passed_by : Machine → (n : ℕ) → ℕ
passed_by m n = length (filter (is_held (start_of m) (history_of m)) (take n (all_in m)))

-- i of the first k + i are, and so many with the next one: the next one isn't
abbrev pub IsPassed : Machine → (k i : ℕ) → Type 0
IsPassed m k i = (passed_by m (k + i) ≡ i) × (passed_by m (k + i + 1) ≡ i)
