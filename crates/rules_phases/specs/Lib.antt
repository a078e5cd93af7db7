pub mod Phases
pub mod Phased
pub mod Worked
