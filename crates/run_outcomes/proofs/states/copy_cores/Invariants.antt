use Rattle.std.proofs.Common.{◌≡◌, take}
use Rattle.run_outcomes.proofs.states.copy_cores.Given as goal

abbrev pub invariant-loop-core : goal.invariant-loop-core
invariant-loop-core l = l.copy.items ≡ take l.core-index l.cores
