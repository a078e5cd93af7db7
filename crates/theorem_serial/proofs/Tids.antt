-- TIDs: who has which one, where it is handled, and which of them were committed.
pub use Commits.*
pub use TidSteps.*
pub mod Commits
pub mod TidSteps
