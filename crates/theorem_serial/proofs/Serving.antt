-- Which TID a directory serves, what it is owed, and the probes, replies and commits of the TIDs that it has reached.
pub use KeptSteps.*
pub use CoreDue.*
pub use DirDue.*
pub use ProbingSteps.*
pub use OnceSteps.*
pub use OwnerSteps.*
pub mod KeptSteps
pub mod CoreDue
pub mod DirDue
pub mod ProbingSteps
pub mod OnceSteps
pub mod OwnerSteps
