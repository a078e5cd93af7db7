-- What is kept beside a machine is so after one more event.
pub mod Following
pub mod Kept
