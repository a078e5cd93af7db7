-- The proofs of this crate.
mod Rows
mod Runs
mod Starting
mod Holding
mod Picked
mod Keeping
mod Order
mod Places
mod Requests
