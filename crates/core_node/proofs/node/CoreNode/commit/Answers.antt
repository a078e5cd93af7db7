use Rattle.std.proofs.Common.{sym, ◌∙◌}
use Rattle.rules_tcc.specs.Commit.{commit}
use Rattle.core_node.proofs.node.CoreNode.commit.Goals as goal

pub unreachable-requires : goal.unreachable-requires
unfolding commit
unreachable-requires c = let none = sym c.in-None.is ∙ c.in_ok-commit.ensures.noted in cc
