-- Lists of events in their order.
pub mod Ordered
pub mod Counted
