-- What the contracts cite.
pub mod Counting
pub mod Merging
