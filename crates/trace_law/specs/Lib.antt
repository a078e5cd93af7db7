-- What the contracts of this crate cite: a trace as a list, and what holds of its lines.
pub mod Told
pub mod Lines
pub mod Commits
pub mod Sent
