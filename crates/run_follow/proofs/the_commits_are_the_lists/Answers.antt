-- What is committed is what the list says.
use Rattle.run_follow.proofs.Ending.{followed-all}
use Rattle.run_follow.proofs.Keeping.{followed-keeps}
use Rattle.run_follow.proofs.the_commits_are_the_lists.Goals as goal

pub returns-clause-keeps : goal.returns-clause-keeps
returns-clause-keeps c = followed-keeps

pub returns-clause-ends : goal.returns-clause-ends
returns-clause-ends c = followed-all
