-- The proofs of this crate.
mod Enabled
mod Happening
mod Hits
mod RollBacks
