-- What the contracts of this crate cite: the text of a trace of the machine with one bus, from its lines to the whole.
pub mod Lines
pub mod Text
pub mod Rows
