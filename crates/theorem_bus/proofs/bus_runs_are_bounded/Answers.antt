use Rattle.theorem_bus.proofs.InOrder.Bounded.{bus_runs_are_bounded}
use Rattle.theorem_bus.proofs.bus_runs_are_bounded.Goals as goal

pub returns : goal.returns
returns c = record { bounded = bus_runs_are_bounded }
