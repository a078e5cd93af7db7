-- The proofs of this crate.
mod Written
mod Fronts
mod Picked
pub mod Same
pub mod Lemmas
