-- The proofs of this crate.
pub mod Lemmas
mod Banks
mod Reaching
mod Starting
mod Events
mod Bounds
mod Refining
mod TakenLines
mod PacketLines
mod AfterTake
mod Writes
mod Stores
mod Cleaned
mod Instructions
mod Endings
mod Commits
mod BankCommits
mod Published
mod ByPhase
mod Numbers
mod Ones
mod Halves
mod Using
mod Counting
mod Enabling
mod Choices
mod Others
