-- What the contracts of this crate cite.
pub mod Data
pub mod DataInside
pub mod Own
pub mod Placed
pub mod Acting
pub mod Always
