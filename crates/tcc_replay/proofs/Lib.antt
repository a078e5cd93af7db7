-- The proofs of this crate.
mod Prefixes
mod Formed
