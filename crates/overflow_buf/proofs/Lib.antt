pub mod Lines
pub mod Drained
