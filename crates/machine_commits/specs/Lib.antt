-- What the contracts of this crate cite.
pub mod Rising
pub mod Forgetting
