-- What the contracts of this crate cite.
pub mod Cores
pub mod Directories
pub mod Fields
pub mod Links
pub mod Parts
pub mod Together
pub mod Tids
pub mod Traffic
