-- One core by itself: what each of its rules does to its cache, its attempt and what it asks.
pub use Said.*
pub use Outcomes.*
pub use CoreSteps.*
pub use UsedWords.*
pub use WordsKept.*
pub use CoreCloses.*
pub mod Said
pub mod Outcomes
pub mod CoreSteps
pub mod UsedWords
pub mod WordsKept
pub mod CoreCloses
