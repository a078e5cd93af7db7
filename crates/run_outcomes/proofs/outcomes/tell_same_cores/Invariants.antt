use Rattle.std.proofs.Common.{◌≡◌, take, map}
use Rattle.run_outcomes.specs.Results.{told_core}
use Rattle.run_outcomes.proofs.outcomes.tell_same_cores.Given as goal

abbrev pub invariant-loop-k : goal.invariant-loop-k
invariant-loop-k l = map told_core (take l.k l.a) ≡ map told_core (take l.k l.b)
