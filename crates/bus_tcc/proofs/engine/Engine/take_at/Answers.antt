-- The cores that are left.
use Rattle.std.proofs.Common.{None, Some, ap, ◌∙◌}
use Rattle.std.specs.Option.{option_map}
use Rattle.bus_tcc.specs.Machine.{bus_event_of}
use Rattle.bus_tcc.proofs.Choices.{take-at}
use Rattle.bus_tcc.proofs.engine.Engine.take_at.Goals as goal

pub returns-in_err-core : goal.returns-in_err-core
returns-in_err-core c =
    ap (option_map bus_event_of) c.from_residual.ensures
    ∙ take-at _ c.args.self.now c.args.k c.cores.result None c.self.view_is
    (c.cores.ensures.value ∙ ap (λ s. s.cores) c.config.ensures) c.in_err-core.ensures

pub returns : goal.returns
returns c =
    take-at _ c.args.self.now c.args.k c.cores.result (Some c.in_ok-core.core.0) c.self.view_is
    (c.cores.ensures.value ∙ ap (λ s. s.cores) c.config.ensures) c.in_ok-core.ensures
