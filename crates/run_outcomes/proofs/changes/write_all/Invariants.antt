use Rattle.std.proofs.Common.{◌≡◌, ◌≤◌, drop, length}
use Rattle.rv_plain.specs.Store.{buffer_of}
use Rattle.run_outcomes.specs.Changes.{value_in}
use Rattle.run_outcomes.proofs.changes.write_all.Given as goal

abbrev pub invariant-loop-k : goal.invariant-loop-k
invariant-loop-k l =
    (buffer_of l.memory.waiting ≡ value_in (drop l.k l.changes))
    × (l.k ≤ length l.changes)
    × (l.memory.ram ≡ l.fn.memory.ram)

abbrev pub decreases-loop-k : goal.decreases-loop-k
decreases-loop-k l = l.k
