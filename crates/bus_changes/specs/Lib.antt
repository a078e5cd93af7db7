-- What the contracts of this crate cite: what changed of the bus and of memory, and the text of a trace with records.
pub mod Changes
pub mod Text
pub mod Following
pub mod Memory
pub mod Plain
pub mod Laws
