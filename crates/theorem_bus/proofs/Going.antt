-- No state is stuck; when an instruction of a core in bounds can be executed; and the useful events core by core.
pub mod Listed
pub mod Live
pub mod Enabled
pub mod Parts
pub mod Picked
