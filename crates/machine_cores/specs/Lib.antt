-- What the contracts of this crate cite.
pub mod Bank
pub mod BankInside
pub mod Acted
pub mod Uses
pub mod Rest
pub mod Restored
