-- What the contracts of this crate cite.
pub mod Laws
pub mod Lines
pub mod Lists
pub mod PlainTexts
pub mod Runs
