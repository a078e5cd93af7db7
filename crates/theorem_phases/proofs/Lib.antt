-- The proofs of this crate.
pub mod Lemmas
mod Serial
mod Events
mod Running
