-- What the contracts of this crate cite.
pub mod Limits
pub mod Machine
pub mod Forgotten
pub mod Reached
pub mod Delivery
pub mod Whole
pub mod Restored
pub mod Answers
pub mod Inside
pub mod Away
pub mod Copies
pub mod Taking
