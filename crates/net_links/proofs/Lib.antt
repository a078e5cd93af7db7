-- Why each step on a link keeps its rule.
pub mod Passes
pub mod Moves
