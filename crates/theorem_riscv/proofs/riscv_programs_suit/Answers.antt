use Rattle.theorem_riscv.proofs.MachineRuns.{riscv_programs_suit}
use Rattle.theorem_riscv.proofs.riscv_programs_suit.Goals as goal

pub returns : goal.returns
returns c = record { suit = riscv_programs_suit }
