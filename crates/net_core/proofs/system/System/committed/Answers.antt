-- The cores of the world are those of the bank.
use Rattle.std.proofs.Common.{◌∙◌, ap}
use Rattle.machine_cores.specs.Bank.{cores_of}
use Rattle.net_core.specs.Machine.{Machine, world_of}
use Rattle.net_core.proofs.system.System.committed.Goals as goal

pub returns : goal.returns
unfolding world_of
returns c = c.committed.ensures ∙ ap (λ (m : Machine). (cores_of m.cores c.args.core.0).saved) c.self.view_is
