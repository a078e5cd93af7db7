pub mod Homes
pub mod Caches
pub mod Violations
pub mod Alone
pub mod Whole
pub mod Inside
pub mod Held
