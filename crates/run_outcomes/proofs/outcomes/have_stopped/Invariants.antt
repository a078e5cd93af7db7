use Rattle.std.proofs.Common.{take, All}
use Rattle.run_outcomes.specs.Results.{HasStopped}
use Rattle.run_outcomes.proofs.outcomes.have_stopped.Given as goal

abbrev pub invariant-loop-core : goal.invariant-loop-core
invariant-loop-core l = All HasStopped (take l.core-index l.cores)
