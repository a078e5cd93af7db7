use Rattle.theorem_apart.proofs.Starts.{riscv_nodes_start}
use Rattle.theorem_apart.proofs.Stays.{riscv_nodes_stay}
use Rattle.theorem_apart.proofs.riscv_nodes_are_in_bounds.Goals as goal

pub returns : goal.returns
returns c = record { starts = riscv_nodes_start; stays = riscv_nodes_stay }
