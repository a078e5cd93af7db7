-- The bits that are set are counted.
use Rattle.std.proofs.Common.{ap, ◌∙◌}
use Rattle.std.specs.Prelude.{count_ones}
use Rattle.bus_tcc.proofs.Ones.{ones-below}
use Rattle.bus_tcc.proofs.bus.CoreSet.count_below.Goals as goal

pub returns : goal.returns
returns c = ap count_ones c.bits_below.ensures ∙ ones-below c.args.self.bits c.args.count
