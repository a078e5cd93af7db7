pub mod Lists
pub mod Words
pub mod Memory
pub mod Overlaps
pub mod FirstFaults
pub mod LaidImages
pub mod Started
pub mod LaidFiles
