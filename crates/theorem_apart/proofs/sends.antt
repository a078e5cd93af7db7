-- What a node sends is what its links carry.
pub mod Carries
pub mod Each
pub mod Timely
