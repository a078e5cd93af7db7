-- The line of states from which no end can be reached isn't empty.
use Rattle.text_outcomes.proofs.Parts.{on-err, stuck-some}
use Rattle.text_outcomes.proofs.table.push_stuck_part.Goals as goal

pub returns-in_err-push_stuck-in-Some-clause-some : goal.returns-in_err-push_stuck-in-Some-clause-some
returns-in_err-push_stuck-in-Some-clause-some c = rw c.in-Some.is (on-err _ (stuck-some _))

pub returns-in_ok-push_stuck-in-Some-clause-some : goal.returns-in_ok-push_stuck-in-Some-clause-some
returns-in_ok-push_stuck-in-Some-clause-some c = rw c.in-Some.is (on-err _ (stuck-some _))
