-- Which events are enabled, and which are useful.
pub mod Enabled
pub mod Listed
pub mod Evictions
