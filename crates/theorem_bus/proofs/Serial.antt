-- The commits are a serial execution.
pub mod Transaction
pub mod Shown
pub mod Commits
pub mod Given
