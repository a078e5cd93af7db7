pub mod Flat
pub mod Banks
pub mod Limits
pub mod Totals
pub mod Choices
pub mod Starts
pub mod Resting
pub mod Lemmas
