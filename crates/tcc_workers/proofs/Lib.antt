mod Shares
mod Turning
pub mod Lemmas
