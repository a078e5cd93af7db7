pub mod Bytes
pub mod Put
pub mod Settings
pub mod Limits
