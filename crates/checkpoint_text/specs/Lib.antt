-- What the contracts of this crate cite.
pub mod Tables
pub mod Numbers
pub mod Cores
pub mod Directories
pub mod Messages
pub mod Commits
pub mod Machines
pub mod Laws
pub mod Written
