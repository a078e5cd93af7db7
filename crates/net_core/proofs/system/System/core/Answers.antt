-- The cores of the world are those of the bank.
use Rattle.std.proofs.Common.{◌∙◌, ap}
use Rattle.machine_cores.specs.Bank.{cores_of}
use Rattle.net_core.specs.Machine.{Machine, world_of}
use Rattle.net_core.proofs.system.System.core.Goals as goal

pub returns-clause-state : goal.returns-clause-state
unfolding world_of
returns-clause-state c = c.core.ensures.state ∙ ap (λ (m : Machine). cores_of m.cores c.args.core.0) c.self.view_is
