pub mod Parts
pub mod Answers
pub mod OneRestored
pub mod Starts
pub mod MarkedTo
pub mod MarkedFrom
pub mod MarkedAbout
pub mod Lemmas
