-- Words and their values: at home, in copies, and in frames and Fills.
pub mod ValueAt
pub mod ModifiedWords
pub mod FramedCores
pub mod FramedWords
pub mod WordCopies
pub mod HomesAnswered
pub mod WordsMoved
pub mod SeenWords
