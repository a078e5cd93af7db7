-- What the contracts of this crate cite.
pub mod Data
pub mod DataInside
pub mod Foreign
pub mod Gives
pub mod Invs
pub mod Leaves
pub mod Stays
pub mod Tells
pub mod Restored
