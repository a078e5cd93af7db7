pub mod Instructions
pub mod Machine
pub mod Served
