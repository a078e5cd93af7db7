-- In which way each TID was given to each directory, and what its core says of it.
pub use CoreSkips.*
pub use WaySteps.*
pub use ToldSteps.*
pub mod CoreSkips
pub mod WaySteps
pub mod ToldSteps
