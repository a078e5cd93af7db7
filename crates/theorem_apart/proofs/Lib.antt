pub mod Cores
pub mod Dirs
pub mod Given
pub mod Lemmas
pub mod Starts
pub mod Stays
pub mod sends
