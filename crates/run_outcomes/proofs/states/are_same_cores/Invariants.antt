use Rattle.std.proofs.Common.{◌≡◌, take}
use Rattle.run_outcomes.proofs.states.are_same_cores.Given as goal

abbrev pub invariant-loop-k : goal.invariant-loop-k
invariant-loop-k l = take l.k l.a ≡ take l.k l.b
