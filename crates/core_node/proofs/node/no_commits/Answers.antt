use Rattle.core_node.proofs.Cores.{after_none}
use Rattle.core_node.proofs.node.no_commits.Goals as goal

pub returns-clause-none : goal.returns-clause-none
returns-clause-none c = after_none
