-- Each core and memory: what its attempt used is what memory has.
pub mod Follow
pub mod Take
pub mod Commit
pub mod Cores
