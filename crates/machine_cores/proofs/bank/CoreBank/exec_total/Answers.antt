-- How many cores can execute.
use Rattle.std.proofs.Common.{◌∙◌}
use Rattle.machine_cores.proofs.Choices.{exec-totals}
use Rattle.machine_cores.proofs.bank.CoreBank.exec_total.Goals as goal

pub returns : goal.returns
returns c = c.total.ensures ∙ exec-totals c.self.inside _ c.self.invariant c.self.view_is
