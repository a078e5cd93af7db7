-- The proofs of this crate.
mod Acting
mod Before
mod Counts
mod Going
mod Leading
mod Traces
