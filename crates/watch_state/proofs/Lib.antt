-- The proofs of this crate.
pub mod Lemmas
pub mod Growing
pub mod ShownFrames
pub mod ShownLines
pub mod Listed
pub mod Flying
pub mod Parts
pub mod Spilling
