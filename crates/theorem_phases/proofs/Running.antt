-- Runs by phases: that they are runs, what a chooser picks, that they don't stick, and that their phases rise.
pub mod Runs
pub mod Chosen
pub mod Stuck
pub mod Ordered
pub mod NeverFall
