-- What the contracts of this crate cite: the facts, what an event did, schedules whose facts are worked out, and what `watch_bus` answers.
pub mod Facts
pub mod Plain
pub mod Happened
pub mod Laws
pub mod Worked
pub mod Telling
pub mod Watched
