pub mod Names
pub mod Lemmas
