use Rattle.theorem_riscv.proofs.MachineRuns.{riscv_runs_are_serial}
use Rattle.theorem_riscv.proofs.riscv_runs_are_serial.Goals as goal

pub returns : goal.returns
returns c = record { serial = riscv_runs_are_serial }
