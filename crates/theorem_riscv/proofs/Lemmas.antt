-- What the proofs of other crates cite of this one.
pub use Rattle.theorem_riscv.proofs.Given.{runs_give_the_plain_machine, committed_tids_were_granted_once}
pub use Rattle.theorem_riscv.proofs.Going.{riscv_cores_go_on, equipped}
pub use Rattle.theorem_riscv.proofs.MachineRuns.{riscv_programs_suit, riscv_runs_are_serial}
