-- What the contracts of this crate cite.
pub mod Phased
pub mod Answers
pub mod Requests
pub mod Standing
pub mod Kept
pub mod Choosing
pub mod Inside
