pub mod View
pub mod Answers
pub mod Executing
pub mod Waiting
pub mod Useful
pub mod AtHand
