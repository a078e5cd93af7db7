-- The proofs of this crate.
mod FirstLogs
mod Listing
