-- What the contracts of this crate cite.
pub mod Numbers
pub mod Grammar
pub mod Fields
pub mod Asked
pub mod Bounds
pub mod Laws
