mod Every
mod Events
mod Choices
mod Taken
mod TakenAlways
pub mod Lemmas
mod Starts
mod Members
