pub mod Given
pub mod Going
pub mod ImageRun
pub mod Lemmas
pub mod MachineRuns
pub mod Needs
