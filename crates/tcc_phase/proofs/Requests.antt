-- Requests for TIDs that are held back.
pub mod Asked
pub mod Behind
pub mod Listed
pub mod Staying
pub mod Those
pub mod Waiting
