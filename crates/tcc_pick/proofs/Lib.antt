-- The proofs of this crate.
pub mod Lemmas
mod Chosen
mod Further
mod Noted
mod Picked
mod Took
