-- How many evictions are useful.
use Rattle.std.proofs.Common.{◌∙◌}
use Rattle.machine_cores.proofs.Choices.{evict-totals}
use Rattle.machine_cores.proofs.bank.CoreBank.evict_total.Goals as goal

pub returns : goal.returns
returns c = c.total.ensures ∙ evict-totals c.self.inside _ c.self.invariant c.self.view_is
