-- What one event makes of a machine, by the node that it acts on, and several events one after another.
pub mod Kept
pub mod Cores
pub mod Directories
pub mod Vendor
pub mod Ends
pub mod Marks
pub mod Unnoted
pub mod Runs
pub mod TakesAlike
pub mod Quiet
