mod Cores
mod Dirs
mod Messages
mod Pairs
mod Resolved
mod Steps
pub mod Lemmas
