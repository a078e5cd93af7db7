use Rattle.trace_law.proofs.Committed.{commit-lines}
use Rattle.trace_law.proofs.commit_lines_are_the_commits.Goals as goal

pub returns : goal.returns
returns c = commit-lines
