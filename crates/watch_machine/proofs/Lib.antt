-- The proofs of this crate.
pub mod Lemmas
mod AnyOrder
mod Named
mod Numbering
mod Rising
mod Small
mod Happening
mod Enabled
