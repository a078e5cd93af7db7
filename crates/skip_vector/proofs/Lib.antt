pub mod Flags
pub mod Windows
