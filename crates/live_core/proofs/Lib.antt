-- The proofs of this crate.
mod Delivering
mod Filtered
mod Halting
mod Live
mod Rules
mod Tables
pub mod Lemmas
