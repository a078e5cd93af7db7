use Rattle.console_law.proofs.Commits.{noted-are-the-commits}
use Rattle.console_law.proofs.noted_commits_are_the_commits.Goals as goal

pub returns : goal.returns
returns c = noted-are-the-commits
