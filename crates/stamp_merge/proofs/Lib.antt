-- The proofs of this crate.
mod Laws
pub mod Lemmas
mod Sorting
mod Stamps
