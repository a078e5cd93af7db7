-- The proofs of this crate.
mod Along
mod Clear
mod Ending
mod Finding
mod Followed
mod InTurn
mod Keeping
mod Lengths
mod Runs
mod Turning
