-- Proofs.
mod BusDone
mod BusHalts
mod Done
mod Halts
pub mod Lemmas
mod Reports
