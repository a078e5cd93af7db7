use Rattle.std.proofs.Common.{◌≡◌, ℕ, ◌*◌, ◌<◌, ◌≤◌, ◌-◌, None, length}
use Rattle.run_outcomes.specs.Counted.{Counts, all_running}
use Rattle.run_outcomes.specs.Edges.{AreEdges, IsEdgedAt}
use Rattle.run_outcomes.specs.Explored.{AreFound, AreLed}
use Rattle.run_outcomes.specs.Tried.{AreTried}
use Rattle.run_outcomes.proofs.search.Search.go.Given as goal

abbrev pub invariant-loop-number : goal.invariant-loop-number
invariant-loop-number l =
    AreFound l.self.executor l.self.table
    × (l.self.executor ≡ l.fn.self.executor)
    × (length l.self.table ≤ l.limits.states)
    × (l.number ≤ length l.self.table)
    × (l.self.endless ≡ 0 → (k : ℕ) → k < l.number → (core : ℕ)
    → IsEdgedAt l.self.executor l.self.table l.self.edges k core)
    × AreLed l.self.executor l.self.table l.self.ways
    × AreTried l.self.executor l.self.table l.limits.longest (l.number * l.self.executor.settings.cores) None l.self.transactions
    l.self.endless l.self.endless_at
    × (l.self.endless ≡ 0 → Counts l.self.transactions (all_running l.self.executor.settings.cores l.self.table l.number))
    × AreEdges l.self.executor l.self.table l.self.edges

abbrev pub decreases-loop-number : goal.decreases-loop-number
decreases-loop-number l = l.limits.states - l.number
