-- The proofs of this crate.
mod Fits
mod Rounds
mod Peers
mod Joining
mod Seats
mod Wired
mod Entries
mod Acting
pub mod Lemmas
