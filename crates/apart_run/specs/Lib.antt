-- What the contracts of this crate cite.
pub mod Going
pub mod Joined
pub mod Laws
