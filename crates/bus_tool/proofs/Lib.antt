-- The proofs of this crate.
pub mod Lemmas
mod Chosen
mod Picked
mod Ran
mod Shown
mod Told
