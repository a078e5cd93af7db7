use Rattle.std.proofs.Common.{◌≡◌, map}
use Rattle.run_outcomes.proofs.Chained.{IsWalked, ahead}
use Rattle.run_outcomes.specs.Digests.{state_digest}
use Rattle.run_outcomes.specs.Explored.{state_at}
use Rattle.run_outcomes.proofs.states.find.Given as goal

abbrev pub invariant-loop-next : goal.invariant-loop-next
invariant-loop-next l = IsWalked (map state_digest l.states) l.digest (λ j. state_at l.states j ≡ l.state → ⊥) l.next

abbrev pub decreases-loop-next : goal.decreases-loop-next
decreases-loop-next l = ahead l.next
