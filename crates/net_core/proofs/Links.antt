-- What was sent: its way to the links, and finding it there or before.
pub mod Placing
pub mod Settling
pub mod Seeking
