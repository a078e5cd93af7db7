-- What the contracts of this crate cite.
pub mod Reasons
pub mod Waiting
pub mod Plain
pub mod Chosen
pub mod Reached
