-- What the contracts of this crate cite: the text of a trace, from its words to the whole.
pub mod Shown
pub mod Words
pub mod Lines
pub mod Text
pub mod Rows
