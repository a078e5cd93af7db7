-- What the contracts of this crate cite.
pub mod Tables
pub mod Messages
pub mod Places
pub mod Sizes
pub mod KeptCores
pub mod Counts
pub mod CountsInside
pub mod Totals
pub mod Lines
pub mod Text
pub mod Csv
pub mod Worked
