-- What the contracts of this crate cite: the facts, what an event did, and schedules whose facts are worked out.
pub mod Facts
pub mod Plain
pub mod Instructions
pub mod Messages
pub mod Happened
pub mod Worked
