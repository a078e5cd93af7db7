use Rattle.theorem_bounds.proofs.Riscv.{riscv_runs_are_bounded}
use Rattle.theorem_bounds.proofs.riscv_runs_are_bounded.Goals as goal

pub returns : goal.returns
returns c = record { bounded = riscv_runs_are_bounded }
