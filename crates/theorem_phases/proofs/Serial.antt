-- Serial executions, and the phases of their commits.
pub mod Replayed
pub mod Ran
pub mod Followed
pub mod Inserted
pub mod Growing
