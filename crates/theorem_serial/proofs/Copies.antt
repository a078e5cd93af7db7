-- The copies of a line and its tag: in frames, on their way home, and of commits on their way.
pub use TagsKept.*
pub use LinesKept.*
pub use PairCopies.*
pub use CopyRules.*
pub use CopySends.*
pub mod TagsKept
pub mod LinesKept
pub mod PairCopies
pub mod CopyRules
pub mod CopySends
