pub mod Flags
pub mod Tables
