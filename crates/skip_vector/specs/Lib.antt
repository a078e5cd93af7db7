-- What the models of this crate cite.
pub mod Served
pub mod Window
