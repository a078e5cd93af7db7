-- What a node's log says of it.
pub mod Local
pub mod Stored
pub mod Stamps
