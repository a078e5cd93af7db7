-- Sorting by counting: what is counted, where each entry goes, and that this sorts.
pub mod Counted
pub mod Placed
pub mod Sorted
pub mod Walked
