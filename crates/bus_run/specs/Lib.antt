-- What the contracts of this crate cite.
pub mod Going
pub mod Laws
pub mod Leading
pub mod Traced
pub mod Counted
pub mod Counting
pub mod Shown
