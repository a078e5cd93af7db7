-- What the contracts of this crate cite: the order of records, what changed between two lists, and the text of a trace with records.
pub mod Order
pub mod Same
pub mod Changes
pub mod Nodes
pub mod Touched
pub mod Text
pub mod Plain
pub mod Laws
