-- The RISC-V programs that the machine runs have accesses in memory alone, and its settings a directory.
use Rattle.rv_code.specs.Machine.{program}
use Rattle.image_load.specs.Start.{first_ram}
use Rattle.rules_riscv.specs.Starting.{local_at_start}
use Rattle.theorem_riscv.proofs.Lemmas.{riscv_programs_suit}
use Rattle.theorem_bounds.specs.Riscv.{RiscvRunsAreBounded}
use Rattle.theorem_bounds.proofs.Bounded.{runs_are_bounded}

pub riscv_runs_are_bounded : RiscvRunsAreBounded
riscv_runs_are_bounded s es k =
    let u = riscv_programs_suit s k in
    runs_are_bounded s.settings (program s) (local_at_start s) (first_ram s) es u.dirs u.inside
