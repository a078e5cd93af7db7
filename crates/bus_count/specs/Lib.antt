-- What the contracts of this crate cite.
pub mod Counts
pub mod Inside
pub mod Text
pub mod Csv
pub mod Worked
