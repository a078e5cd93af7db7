-- What can happen, and what stays in order and in bounds along a run.
pub mod Events
pub mod Ordered
pub mod Runs
pub mod Numbered
pub mod Bounded
