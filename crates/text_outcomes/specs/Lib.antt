-- What the contracts of this crate cite.
pub mod Changes
pub mod Laws
pub mod Lines
pub mod Sources
pub mod Table
pub mod Told
pub mod Written
