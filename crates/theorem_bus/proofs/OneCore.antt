-- What an event leaves of one core by itself.
pub mod Did
pub mod Filled
pub mod Instruction
pub mod Fine
pub mod Committed
pub mod Taken
