-- Proofs.
mod Alike
mod Changes
mod Cores
mod Ends
pub mod Lemmas
mod Outcomes
mod Parts
mod Put
mod Sources
mod States
