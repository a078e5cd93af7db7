-- What was taken so far follows the list.
use Rattle.std.proofs.Common.{map}
use Rattle.rv_plain.specs.PlainState.{order_of}
use Rattle.run_follow.proofs.Followed.{Going}
use Rattle.run_follow.proofs.following.go_on.Given as goal

abbrev pub invariant-loop : goal.invariant-loop
invariant-loop l = Going (map order_of l.orders) l.fn.refined l.refined l.most l.counter
