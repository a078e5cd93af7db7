-- The next TID.
use Rattle.std.proofs.Common.{ap}
use Rattle.bus_tcc.specs.Machine.{bus_world_of}
use Rattle.bus_tcc.proofs.engine.Engine.next.Goals as goal

pub returns : goal.returns
unfolding bus_world_of
returns c = ap (λ m. m.next) c.self.view_is
