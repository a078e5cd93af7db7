-- The sum of the counts.
use Rattle.std.proofs.Common.{◌∙◌}
use Rattle.bus_tcc.proofs.Choices.{evict-total}
use Rattle.bus_tcc.proofs.engine.Engine.evict_total.Goals as goal

pub returns : goal.returns
returns c = c.total.ensures ∙ evict-total c.args.self.now c.args.counts.now c.requires
