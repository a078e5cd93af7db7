-- What the contracts of this crate cite.
pub mod Forgetting
pub mod Going
pub mod Shown
pub mod Telling
pub mod Written
pub mod Looked
pub mod Traces
pub mod Runs
pub mod Tables
pub mod Consoles
pub mod Meanwhile
