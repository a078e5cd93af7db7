-- Proofs.
mod Commits
mod Consoles
mod Placed
