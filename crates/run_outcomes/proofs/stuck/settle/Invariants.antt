use Rattle.std.proofs.Common.{length}
use Rattle.run_outcomes.specs.Stuck.{AreMarks, left_over}
use Rattle.run_outcomes.proofs.stuck.settle.Given as goal

abbrev pub invariant-loop-to : goal.invariant-loop-to
invariant-loop-to l =
    AreMarks l.explored.loaded l.explored.states l.explored.edges (length l.explored.states) (length l.explored.states) l.marks

abbrev pub decreases-loop-to : goal.decreases-loop-to
decreases-loop-to l = left_over l.marks
