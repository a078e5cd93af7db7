-- The proofs of this crate.
pub mod Lemmas
mod Values
mod Growing
