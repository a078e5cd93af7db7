-- What one event asks for, grants, halts and notes.
pub mod Asking
pub mod Granting
pub mod Halting
pub mod Noting
pub mod Staying
