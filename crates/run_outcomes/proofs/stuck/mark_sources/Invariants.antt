use Rattle.std.proofs.Common.{◌≤◌, length}
use Rattle.run_outcomes.proofs.Chained.{IsWalked, ahead}
use Rattle.run_outcomes.proofs.Marking.{targets}
use Rattle.run_outcomes.specs.Edges.{edge_at}
use Rattle.run_outcomes.specs.Stuck.{AreMarks, IsMarked, left_over}
use Rattle.run_outcomes.proofs.stuck.mark_sources.Given as goal

abbrev pub invariant-loop-next : goal.invariant-loop-next
invariant-loop-next l =
    AreMarks l.explored.loaded l.explored.states l.explored.edges (length l.explored.states) l.to l.marks
    × IsWalked (targets l.explored.edges) l.to (λ i. IsMarked l.marks (edge_at l.explored.edges i).from) l.next
    × (left_over l.marks ≤ left_over l.fn.marks)

abbrev pub decreases-loop-next : goal.decreases-loop-next
decreases-loop-next l = ahead l.next
