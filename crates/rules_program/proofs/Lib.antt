pub mod Cores
pub mod Lemmas
pub mod Serials
