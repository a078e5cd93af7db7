-- The cores that are left.
use Rattle.std.proofs.Common.{ap, ◌∙◌}
use Rattle.bus_tcc.proofs.Choices.{take-count}
use Rattle.bus_tcc.proofs.engine.Engine.take_total.Goals as goal

pub returns : goal.returns
returns c =
    c.from.ensures
    ∙ take-count _ c.args.self.now _ c.cores.result c.self.view_is (c.cores.ensures.value ∙ ap (λ s. s.cores) c.config.ensures)
    c.left_count.ensures
