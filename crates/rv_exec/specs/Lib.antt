pub mod Effects
pub mod Laws
pub mod Needs
pub mod Operations
pub mod Outcomes
pub mod Running
pub mod Words
