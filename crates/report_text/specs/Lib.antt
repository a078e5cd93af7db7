pub mod Ending
pub mod InLines
pub mod Lines
pub mod Plain
pub mod Shown
pub mod Text
pub mod Trial
