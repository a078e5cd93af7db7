-- The proofs of this crate.
mod Forgetting
mod Further
mod Going
mod Kept
mod Leading
mod Named
mod Picking
mod Printed
mod Rested
mod Runs
mod Serving
mod Tabled
mod Tallies
mod Told
mod Traced
mod Written
mod Sent
