-- The proofs of this crate.
pub mod Lemmas
mod Bytes
mod Telling
