-- What the contracts of the crates above cite.
pub mod Apart
pub mod Brought
pub mod Laws
