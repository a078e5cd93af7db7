-- What always holds of a node is kept.
pub mod Gathering
pub mod Handling
pub mod Performing
pub mod Starting
