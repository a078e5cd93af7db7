-- What a core sees at its bound: each used word has its value, or the attempt is doomed.
pub mod ViewFacts
pub mod ViewDirs
pub mod ViewsKept
