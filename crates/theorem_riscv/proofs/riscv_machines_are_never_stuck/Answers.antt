use Rattle.theorem_riscv.proofs.Going.{riscv_never_stuck, riscv_cores_go_on, riscv_picked_ends_done}
use Rattle.theorem_riscv.proofs.riscv_machines_are_never_stuck.Goals as goal

pub returns : goal.returns
returns c = record { done = riscv_never_stuck; goes_on = riscv_cores_go_on; picked = riscv_picked_ends_done }
