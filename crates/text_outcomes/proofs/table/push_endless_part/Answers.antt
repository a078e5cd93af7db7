-- The line of transactions that don't end isn't empty.
use Rattle.text_outcomes.proofs.Parts.{endless-some, on-err}
use Rattle.text_outcomes.proofs.table.push_endless_part.Goals as goal

pub returns-in_err-push_endless-in-Some-clause-some : goal.returns-in_err-push_endless-in-Some-clause-some
returns-in_err-push_endless-in-Some-clause-some c = rw c.in-Some.is (on-err _ (endless-some _))

pub returns-in_ok-push_endless-in-Some-clause-some : goal.returns-in_ok-push_endless-in-Some-clause-some
returns-in_ok-push_endless-in-Some-clause-some c = rw c.in-Some.is (on-err _ (endless-some _))
