use Rattle.run_outcomes.proofs.Chained.{IsWalked, ahead}
use Rattle.run_outcomes.proofs.Grouped.{IsOther, told_keys}
use Rattle.run_outcomes.proofs.outcomes.place.Given as goal

abbrev pub invariant-loop-next : goal.invariant-loop-next
invariant-loop-next l =
    IsWalked (told_keys l.tell l.explored.states l.firsts) l.digest (IsOther l.tell l.explored.states l.firsts l.k) l.next

abbrev pub decreases-loop-next : goal.decreases-loop-next
decreases-loop-next l = ahead l.next
