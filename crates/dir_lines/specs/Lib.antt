-- What the contracts of this crate cite.
pub mod Home
pub mod Record
pub mod Marking
pub mod Pages
pub mod PagesInside
pub mod Kept
pub mod Filed
pub mod FiledInside
pub mod Words
pub mod WordsInside
pub mod Owned
pub mod Restored
