pub mod Rules
pub mod Rows
pub mod Order
pub mod Standing
pub mod OneCommand
mod Bounded
mod Unasked
