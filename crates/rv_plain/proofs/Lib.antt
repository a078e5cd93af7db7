pub mod Stepping
pub mod Views
pub mod Faults
pub mod Starts
pub mod Transacted
pub mod Serials
pub mod Lemmas
