use Rattle.theorem_bus.proofs.InOrder.Bounded.{riscv_bus_runs_are_bounded}
use Rattle.theorem_bus.proofs.riscv_bus_runs_are_bounded.Goals as goal

pub returns : goal.returns
returns c = record { bounded = riscv_bus_runs_are_bounded }
