-- The cores of the world are those of the bank.
use Rattle.std.proofs.Common.{◌∙◌, ap}
use Rattle.theorem_serial.specs.Commits.{end_after}
use Rattle.machine_cores.specs.Bank.{cores_of}
use Rattle.net_core.specs.Machine.{Machine, world_of}
use Rattle.net_core.proofs.system.System.ended.Goals as goal

pub returns : goal.returns
unfolding world_of
returns c = c.ended.ensures ∙ ap (λ (m : Machine). let x = cores_of m.cores c.args.core.0 in end_after x.phase x.ended) c.self.view_is
