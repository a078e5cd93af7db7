use Rattle.std.proofs.Common.{length}
use Rattle.run_outcomes.specs.Stuck.{AreMarks}
use Rattle.run_outcomes.proofs.stuck.mark_ends.Given as goal

abbrev pub invariant-loop-k : goal.invariant-loop-k
invariant-loop-k l = AreMarks l.explored.loaded l.explored.states l.explored.edges l.k (length l.explored.states) l.marks
