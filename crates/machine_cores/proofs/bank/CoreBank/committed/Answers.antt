-- What the last commit left.
use Rattle.std.proofs.Common.{ap, ◌∙◌}
use Rattle.core_node.specs.View.{core_of}
use Rattle.machine_cores.proofs.bank.CoreBank.committed.Goals as goal

pub returns : goal.returns
unfolding core_of
returns c = c.check.ensures ∙ ap (λ s. s.saved) c.core.ensures.state
