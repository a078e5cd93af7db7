-- Words as the commits left them.
pub mod Places
pub mod Newest
pub mod Seen
pub mod Away
