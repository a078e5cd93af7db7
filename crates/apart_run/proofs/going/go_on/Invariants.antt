-- What came first was taken.
use Rattle.apart_run.proofs.Onward.{Going}
use Rattle.apart_run.proofs.going.go_on.Given as goal

abbrev pub invariant-loop : goal.invariant-loop
invariant-loop l = Going l.fn.refined l.refined l.steps l.counter
