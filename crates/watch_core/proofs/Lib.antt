-- The proofs of this crate.
pub mod Lemmas
mod Lasts
mod Masks
mod Named
