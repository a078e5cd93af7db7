use Rattle.std.proofs.Common.{◌≡◌, ℕ, ◌+◌, ◌*◌, ◌<◌, ◌≤◌, None, length}
use Rattle.run_outcomes.specs.Counted.{Counts, running}
use Rattle.run_outcomes.specs.Edges.{AreEdges, IsEdgedAt}
use Rattle.run_outcomes.specs.Explored.{AreFound, AreLed, IsGrown, state_at}
use Rattle.run_outcomes.specs.Tried.{AreTried}
use Rattle.run_outcomes.proofs.search.Search.expand.Given as goal

abbrev pub invariant-loop-core : goal.invariant-loop-core
invariant-loop-core l =
    AreFound l.self.executor l.self.table
    × (l.self.executor ≡ l.fn.self.executor)
    × IsGrown l.fn.self.table l.self.table
    × (length l.fn.self.table ≤ l.limits.states → length l.self.table ≤ l.limits.states)
    × (l.self.endless ≡ 0 → (core : ℕ) → core < l.core → IsEdgedAt l.self.executor l.self.table l.self.edges l.number core)
    × (l.fn.self.endless ≤ l.self.endless)
    × AreLed l.self.executor l.self.table l.self.ways
    × AreTried l.self.executor l.self.table l.limits.longest (l.number * l.self.executor.settings.cores + l.core) None
    l.self.transactions l.self.endless l.self.endless_at
    × (l.self.endless ≡ 0 → Counts l.self.transactions
    (l.fn.self.transactions + running (state_at l.fn.self.table l.number) l.core))
    × AreEdges l.self.executor l.self.table l.self.edges
    × IsGrown l.fn.self.edges l.self.edges
