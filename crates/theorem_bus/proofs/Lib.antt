-- The proofs of this crate.
pub mod Lemmas
mod OneCore
mod InOrder
mod Memory
mod Serial
mod Going
