pub mod CounterImage
pub mod Given
pub mod Going
pub mod Suiting
