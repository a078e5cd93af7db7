-- Nodes that have heard of one another have logs that fit.
pub mod Filling
pub mod Sides
pub mod Sources
pub mod Whole
pub mod Meeting
