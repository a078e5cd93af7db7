-- Entries that are laid log after log and sorted by stamp are merged.
pub mod Laid
pub mod Lists
pub mod Merged
pub mod Places
pub mod Ties
