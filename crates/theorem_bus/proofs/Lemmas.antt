-- What other crates may cite: the laws, that a picked schedule is a run, when an instruction of a core in bounds can be executed, and the
-- useful events core by core.
pub use Rattle.theorem_bus.proofs.InOrder.Bounded.{bus_runs_are_bounded, riscv_bus_runs_are_bounded}
pub use Rattle.theorem_bus.proofs.Serial.Given.{bus_runs_give_the_plain_machine, bus_tids_count}
pub use Rattle.theorem_bus.proofs.Serial.Given.{riscv_bus_never_stuck, riscv_bus_picked_ends_done}
pub use Rattle.theorem_bus.proofs.Going.Live.{bus_never_stuck}
pub use Rattle.theorem_bus.proofs.Going.Enabled.{alone-stays, instruction-some}
pub use Rattle.theorem_bus.proofs.OneCore.Did.{goes}
pub use Rattle.theorem_bus.proofs.Going.Parts.{evicts_in, flat-same, one_if, room-below, useful-by_core, evicted-some}
pub use Rattle.theorem_bus.proofs.Going.Picked.{picked-is_run, bus_picked_ends_done}
pub use Rattle.theorem_bus.proofs.Serial.Commits.{bus_runs_are_serial}
pub use Rattle.theorem_bus.proofs.OneCore.Committed.{out-noted}
