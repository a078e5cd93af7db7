-- What the contracts of this crate cite: the records of a state, which of them there are, and the text.
pub mod Records
pub mod Plain
pub mod Lines
pub mod Parts
pub mod Text
