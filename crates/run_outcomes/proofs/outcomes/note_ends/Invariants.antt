use Rattle.run_outcomes.specs.Results.{AreGroups}
use Rattle.run_outcomes.proofs.outcomes.note_ends.Given as goal

abbrev pub invariant-loop-k : goal.invariant-loop-k
invariant-loop-k l = AreGroups l.tell l.explored.states l.groups l.k
