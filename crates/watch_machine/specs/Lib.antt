-- What the contracts of this crate cite.
pub mod Watched
pub mod Telling
pub mod Rising
