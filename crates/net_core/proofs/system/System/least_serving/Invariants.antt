-- That of the first directories, so many.
use Rattle.net_core.specs.Forgotten.{IsLeast}
use Rattle.net_core.proofs.system.System.least_serving.Given as goal

abbrev pub invariant-loop-d : goal.invariant-loop-d
invariant-loop-d l = IsLeast l.fn.self l.d l.least
