-- One of the cores.
use Rattle.std.proofs.Common.{ap, ◌∙◌}
use Rattle.machine_cores.specs.Bank.{cores_of}
use Rattle.bus_tcc.specs.Machine.{bus_world_of}
use Rattle.bus_tcc.proofs.Events.{bank_in}
use Rattle.bus_tcc.proofs.engine.Engine.core.Goals as goal

pub returns-clause-state : goal.returns-clause-state
unfolding bus_world_of
returns-clause-state c = c.core.ensures.state ∙ ap (λ m. cores_of (bank_in m) c.args.core.0) c.self.view_is
