pub mod Bits
pub mod Codes
pub mod Decoding
pub mod Formats
pub mod Table
