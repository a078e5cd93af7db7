-- The proofs of this crate.
pub mod Changed
pub mod Parts
pub mod Pieces
pub mod Told
