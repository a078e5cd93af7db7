pub mod Sound
pub mod Follows
pub mod Marks
pub mod Views
