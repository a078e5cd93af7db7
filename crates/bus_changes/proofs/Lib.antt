-- The proofs of this crate.
pub mod Begun
pub mod Following
pub mod Leading
pub mod Lemmas
pub mod Packets
pub mod Steps
pub mod Traced
pub mod Words
