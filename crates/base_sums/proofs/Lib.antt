pub mod Summed
pub mod Falling
