-- What is counted: messages on their links, and sums over the cores; and what is to be shown of an event, by its kind.
pub use Links.*
pub use StepCases.*
pub use DirOutcome.*
pub mod Links
pub mod StepCases
pub mod DirOutcome
