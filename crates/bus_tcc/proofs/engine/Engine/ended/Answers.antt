-- How a core halted.
use Rattle.std.proofs.Common.{ap, ◌∙◌}
use Rattle.machine_cores.specs.Bank.{cores_of}
use Rattle.theorem_serial.specs.Commits.{end_after}
use Rattle.bus_tcc.specs.Machine.{bus_world_of}
use Rattle.bus_tcc.proofs.Events.{bank_in}
use Rattle.bus_tcc.proofs.engine.Engine.ended.Goals as goal

pub returns : goal.returns
unfolding bus_world_of
returns c =
    c.end_of.ensures
    ∙ ap (λ s. end_after s.phase s.ended) (c.core.ensures.state ∙ ap (λ m. cores_of (bank_in m) c.args.core.0) c.self.view_is)
