-- The useful events of a node, counted and by number.
pub mod Filters
pub mod Letters
pub mod Deliveries
pub mod Counts
pub mod Tallied
pub mod Drawing
pub mod Choices
pub mod Chosen
