-- The proofs of this crate.
pub mod Lemmas
mod Staying
mod Sending
mod Growth
mod Adding
mod Lists
mod Keeping
mod Pieces
mod Views
mod Testing
