-- The proofs of this crate.
mod Counting
mod Joined
mod Joining
mod Merging
mod Onward
