-- What is committed is the plain machine's.
use Rattle.std.proofs.Common.{subst}
use Rattle.bus_tcc.specs.Refined.{IsBusRefined}
use Rattle.bus_tcc.specs.Inside.{machine_of}
use Rattle.bus_tcc.proofs.Refining.{refined}
use Rattle.bus_tcc.proofs.engine.Engine.commits.Goals as goal

pub returns-clause-refined : goal.returns-clause-refined
returns-clause-refined c = subst IsBusRefined c.self.view_is (refined (machine_of c.self.inside) c.self.invariant)
