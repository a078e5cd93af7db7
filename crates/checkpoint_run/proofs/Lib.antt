-- The proofs of this crate.
pub mod Split
pub mod SameRuns
pub mod Rows
