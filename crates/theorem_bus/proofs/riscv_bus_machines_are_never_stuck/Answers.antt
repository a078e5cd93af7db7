use Rattle.theorem_bus.proofs.Serial.Given.{riscv_bus_never_stuck, riscv_bus_picked_ends_done}
use Rattle.theorem_bus.proofs.riscv_bus_machines_are_never_stuck.Goals as goal

pub returns : goal.returns
returns c = record { done = riscv_bus_never_stuck; picked = riscv_bus_picked_ends_done }
