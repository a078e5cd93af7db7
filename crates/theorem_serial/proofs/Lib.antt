-- The proofs of this crate, by subject; each folder stands on those above it.
mod Phrases
mod Names
mod Counts
mod OneCore
mod Tids
mod Serving
mod Marks
mod Ways
mod Copies
mod Lines
mod Memory
mod Order
mod Values
mod Views
mod Run
pub mod Lemmas
