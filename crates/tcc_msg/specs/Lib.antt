-- What the contracts of this crate cite.
pub mod Plain
pub mod Held
