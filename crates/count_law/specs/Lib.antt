-- What the contracts of this crate cite.
pub mod Messages
pub mod Sums
