-- The proofs of this crate.
pub mod Running
pub mod Porting
pub mod Picking
pub mod Keeping
pub mod Lemmas
