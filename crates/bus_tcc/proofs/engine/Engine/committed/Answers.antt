-- What the last commit left.
use Rattle.std.proofs.Common.{ap, ◌∙◌}
use Rattle.machine_cores.specs.Bank.{cores_of}
use Rattle.core_node.specs.View.{core_of}
use Rattle.bus_tcc.specs.Machine.{bus_world_of}
use Rattle.bus_tcc.proofs.Events.{bank_in}
use Rattle.bus_tcc.proofs.engine.Engine.committed.Goals as goal

pub returns : goal.returns
unfolding core_of bus_world_of
returns c =
    c.check.ensures ∙ ap (λ s. s.saved) c.core.ensures.state ∙ ap (λ m. (cores_of (bank_in m) c.args.core.0).saved) c.self.view_is
