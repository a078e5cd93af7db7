pub mod Fits
pub mod Progress
