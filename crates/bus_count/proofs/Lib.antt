-- The proofs of this crate.
mod Folds
