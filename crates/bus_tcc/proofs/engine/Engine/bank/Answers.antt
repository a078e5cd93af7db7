-- The cores.
use Rattle.std.proofs.Common.{ap}
use Rattle.machine_cores.specs.Bank.{cores_of}
use Rattle.bus_tcc.specs.Machine.{bus_world_of}
use Rattle.bus_tcc.proofs.Events.{bank_in}
use Rattle.bus_tcc.proofs.engine.Engine.bank.Goals as goal

pub returns-clause-cores : goal.returns-clause-cores
unfolding bus_world_of
returns-clause-cores c = ap (λ m. cores_of (bank_in m)) c.self.view_is
