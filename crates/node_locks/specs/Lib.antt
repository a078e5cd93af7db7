-- What the contracts of this crate and of those above it cite.
pub mod Places
pub mod Wiring
pub mod Hearing
pub mod Joining
pub mod Starting
pub mod Turns
